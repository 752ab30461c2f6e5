use Rattle.std.proofs.Common.{arith}
use Rattle.std.proofs.lemmas.Bool.Decides.{nat_tests}
use Rattle.console_calls.specs.cache_calls.Lines.{is_table}
use Rattle.console_calls.proofs.cache_calls.make_table.Goals as goal

pub room_told-room-requires : goal.room_told-room-requires
unfolding is_table
room_told-room-requires g c = grind (arith, nat_tests)
