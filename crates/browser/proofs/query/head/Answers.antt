use Rattle.browser.proofs.query.Small.{head_is}
use Rattle.browser.proofs.query.head.Goals as goal

pub returns : goal.returns
returns c = head_is c.args.asks c.args.answers c.args.truncated _ _
    c.only_if-flags.ensures c.only_if-questions.ensures
