-- Which choices are admitted, which starts, and with what the others are refused: the smallest number that applies.
use Rattle.std.specs.Prelude.{ℕ, Bool, cond, ◌&&◌, Ok, Err, Result, nat_le}
use Rattle.refusals.specs.declared.Refusal.{Refusal}
use Rattle.settings.specs.declared.choice.Choice.{Choice}
use Rattle.settings.specs.declared.fault.SettingsFault.{SettingsFault}
use Rattle.settings.specs.declared.fault.SettingsFault.TheVariants.{Range, SurvivorsTooFew, JoinersUnheard, JoinBoundTooHigh, QuorumTooHigh, QuorumsApart, TooFewStations}
use Rattle.settings.specs.Ranges.{in_range, InRange}
use Rattle.settings.specs.Conditions.{met, Met, survivors, joiners, join_bound, quorum, quorums}
use Rattle.settings.specs.Faults.{told}

-- the fault where the test fails, else the rest
abbrev pub unless : {A : Type 0} → Bool → SettingsFault → Result A Refusal → Result A Refusal
unless test fault rest = cond test rest (Err (told fault))

-- the first condition that is broken, else the choice
abbrev pub conditions_met : Choice → Result Choice Refusal
conditions_met c =
    unless (met (survivors c)) SurvivorsTooFew
    (unless (met (joiners c)) JoinersUnheard
    (unless (met (join_bound c)) JoinBoundTooHigh
    (unless (met (quorum c)) QuorumTooHigh
    (unless (met (quorums c)) QuorumsApart
    (Ok c)))))

-- the first refusal that applies, else the choice
abbrev pub admission : Choice → Result Choice Refusal
admission c = unless (in_range c) Range (conditions_met c)

-- the five conditions, as facts
abbrev pub Conditions : Choice → Type 0
Conditions c = Met (survivors c) × Met (joiners c) × Met (join_bound c) × Met (quorum c) × Met (quorums c)

-- an admitted choice: every range and every condition, as facts
abbrev pub Admitted : Choice → Type 0
Admitted c = InRange c × Conditions c

-- the test that a table has 1 to 256 places, and that k stations, at least one, have room in it
abbrev pub start_in_range : ℕ → ℕ → Bool
start_in_range table k = nat_le 1 table && nat_le table 256 && nat_le 1 k && nat_le k table

-- the first refusal of a start with k stations present, else none
abbrev pub start_admission : Choice → ℕ → ℕ → Result (Unit {0}) Refusal
start_admission c table k =
    unless (start_in_range table k) Range
    (unless (nat_le c.nmin k) TooFewStations
    (Ok tt))
