use Rattle.std.proofs.Common.{◌∙◌, arith, rules}
use Rattle.book.proofs.Rings.{churn_step, churn_fails, churn_none, refused, allowed}
use Rattle.book.proofs.book.LimitBook.allows.Goals as goal

pub returns-then-moves-alpha : goal.returns-then-moves-alpha
returns-then-moves-alpha c =
    let b = c.args.self.now in
    refused _ _ (c.loop-i.invariant.0 ∙ churn_fails b.rows b.newest b.kept c.args.alpha c.loop-i.moves c.loop-i.i c.loop-i-test.true (omega (arith, c.if-moves-alpha.true)))

pub loop-i-preserved : goal.loop-i-preserved
loop-i-preserved c =
    let b = c.args.self.now in (
      c.loop-i.invariant.0 ∙ churn_step b.rows b.newest b.kept c.args.alpha c.loop-i.moves c.loop-i.i c.loop-i-test.true (omega (arith, c.if-moves-alpha.false)),
      search rules,
    )

pub returns : goal.returns
returns c =
    let b = c.args.self.now in
    allowed _ _ c.if-clock-eq0.false (c.loop-i.invariant.0 ∙ churn_none b.rows b.newest b.kept c.args.alpha c.loop-i.moves c.loop-i.i c.loop-i-test.false)
