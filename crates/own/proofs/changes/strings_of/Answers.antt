use mathlib.Core.Path.{refl}
use Rattle.own.proofs.changes.Revised.{strings-laid}
use Rattle.own.proofs.changes.strings_of.Goals as goal

pub returns : goal.returns
returns c = strings-laid c.args.txt.now _ _ c.put.ensures refl
