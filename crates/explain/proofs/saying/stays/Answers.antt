use Rattle.std.proofs.Common.{◌≡◌, ◌≢◌, rules, true, false}
use Rattle.explain.proofs.Answers.{narrow_said, compared, compared_stays}
use Rattle.explain.proofs.saying.stays.Goals as goal

pub returns : goal.returns
returns c =
    let same : c.eq.result ≡ true → c.said_by.result ≡ c.args.x = λ h. search rules in
    let other : c.eq.result ≡ false → c.said_by.result ≢ c.args.x = λ h e. search rules in
    let h = narrow_said c.args.q _ c.narrow.ensures c.requires.used in
    compared_stays (rw c.said_by.ensures h) (compared c.args.x c.said_by.result c.eq.result same other)
