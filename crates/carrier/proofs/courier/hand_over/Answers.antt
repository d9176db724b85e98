use Rattle.std.proofs.Common.{◌≡◌, ℕ, ◌<◌, cond, ltb, List, [], ◌∷◌, length, Some, None, Ok, Err, Option, Result, sym, ap, ◌∙◌, arith}
use Rattle.std.specs.Result.{result_ok}
use Rattle.std.proofs.lemmas.Bool.{lt-ltb, cond-true}
use Rattle.carrier.specs.Owing.{owed_to, owing}
use Rattle.carrier.proofs.Copies.{at_same}
use Rattle.carrier.specs.declared.message.Held.{Held}
use Rattle.carrier.specs.declared.owed.Owed.{Owed}
use Rattle.carrier.proofs.courier.hand_over.Goals as goal

-- where no copy waits nothing is taken
pub returns-in_err-look-clause-taken : goal.returns-in_err-look-clause-taken
returns-in_err-look-clause-taken g c =
    let w = g.C.Carrier.waits c.args.carrier.now in
    let gone = sym c.look.ensures ∙ c.in_err-look.was in
    sym (cond-true _ _ _ (lt-ltb _ _ c.if-station-stations.false) ∙ sym (at_same w c.args.number c.args.station None gone))

one_of : {R : Type 0} (rs : List R) (q : ℕ) → q < length rs → R
one_of [] q h = absurd (omega arith)
one_of (r ∷ rs) q h = r

-- the debt is to the station that was asked for
debtor : {X : Type 0} (q : ℕ) (w : Option (Held X)) (o : Owed X) → ◌≡◌ {A = Option (Owed X)} (Some o) (result_ok (owing q w)) → o.station ≡ q
debtor {X} q (Some x) o e =
    let same : ◌≡◌ {A = Owed X} o (owed_to q x) = cc in
    ap (λ (z : Owed X). z.station) same
debtor q None o e = cc

-- a debt to a station that is there does not come back
never : {X R : Type 0} (o e : Owed X) (n : ℕ) (a : R) (r : Result R (Owed X)) → o.station < n → r ≡ Err e → r ≡ cond (ltb o.station n) (Ok a) (Err o) → ⊥
never {X} {R} o e n a r h back came =
    let ok : r ≡ Ok a = came ∙ cond-true _ _ _ (lt-ltb _ _ h) in
    let z : ◌≡◌ {A = ℕ} 0 1 = cc in
    omega arith

pub drop-requires : goal.drop-requires
drop-requires g c =
    let here = debtor c.args.station _ c.in_ok-owed.owed (c.in_ok-owed.ensures.value ∙ ap result_ok c.take_owed.ensures.value) in
    let d = one_of c.args.stations.now c.args.station c.if-station-stations.false in
    absurd (never c.in_ok-owed.owed c.in-Err.field-0 (length c.args.stations.now) _ c.apply.result (omega (arith, here, c.if-station-stations.false)) c.in-Err.is (c.apply.ensures.value d))
