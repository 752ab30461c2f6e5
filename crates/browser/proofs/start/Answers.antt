use Rattle.browser.proofs.Asking.{start-refused, starts}
use Rattle.browser.proofs.start.Goals as goal

pub returns-in-Err : goal.returns-in-Err
returns-in-Err c = let all = start-refused _ _ _ _ _ _ c.start_refusal.ensures c.in-Err.is _ c.blank_browser.ensures in record { answer = all.0; number = all.1 }

pub returns : goal.returns
returns c = let all = starts _ _ _ _ _ _ c.start_refusal.ensures c.in_default.is in record { answer = all.0; number = all.1 }
