-- What each condition on the settings is for, in numbers of stations. The conditions have the numbers of their refusals, 11 to 15.
use Rattle.std.specs.Prelude.{ℕ, ◌+◌, ◌*◌, ◌^◌, ◌<◌, ◌≤◌}
use Rattle.settings.specs.declared.choice.Choice.{Choice}
use Rattle.settings.specs.Conditions.{P, M}
use Rattle.settings.specs.Admission.{Admitted}
use Rattle.counting.specs.Windows.{Growth}

-- three windows, with enough stations present before and few of those present after crashed
pub record ThreeWindows (c : Choice) (before entered left after crashed : ℕ) : Type 0 where
  pub admitted : Admitted c
  pub growth : Growth c 3 before entered left after
  pub enough : c.nmin ≤ before
  pub few_crashed : 100 * crashed ≤ c.delta * after

-- 11: where those present before last, have left or have crashed, one lasts
abbrev pub SomeoneLasts : Type 0
SomeoneLasts =
    (c : Choice) (before entered left after crashed lasting : ℕ) → ThreeWindows c before entered left after crashed
    → before ≤ lasting + left + crashed
    → 1 ≤ lasting

-- 12: where those counted last, have entered, left or crashed, and are gamma of a bound that is not too low, one of them lasts
abbrev pub SomeoneCountedLasts : Type 0
SomeoneCountedLasts =
    (c : Choice) (before entered left after crashed bound counted lasting : ℕ) → ThreeWindows c before entered left after crashed
    → M c ^ 3 * before ≤ 100 ^ 3 * bound → c.gamma * bound ≤ 100 * counted
    → counted ≤ lasting + entered + left + crashed
    → 1 ≤ lasting

-- 13: the echoes of those that last are gamma of a bound that is not too high
abbrev pub EchoesSuffice : Type 0
EchoesSuffice =
    (c : Choice) (before entered left after crashed bound lasting echoes : ℕ) → ThreeWindows c before entered left after crashed
    → 100 ^ 3 * bound ≤ P c ^ 3 * before → before ≤ lasting + left + crashed → lasting ≤ echoes
    → c.gamma * bound ≤ 100 * echoes

-- 14: the replies of those that last are beta of a base that is not too high
abbrev pub RepliesSuffice : Type 0
RepliesSuffice =
    (c : Choice) (before entered left after crashed base lasting replies : ℕ) → ThreeWindows c before entered left after crashed
    → 100 ^ 2 * base ≤ P c ^ 2 * before → before ≤ lasting + left + crashed → lasting ≤ replies
    → c.beta * base ≤ 100 * replies

-- A phase in numbers: `earlier` stations were present four windows before it began and `present` two windows before,
-- `base` members were known when it began, and `quorum` replied by its end.
pub record PhaseNumbers (c : Choice) (earlier present base quorum : ℕ) : Type 0 where
  pub base_low : M c ^ 4 * earlier ≤ 100 ^ 4 * base + 100 ^ 3 * (c.delta * present)
  pub share : c.beta * base ≤ 100 * quorum

-- 15: the quorums of a phase and of one that begins at most two windows later are together more than all that were there
abbrev pub QuorumsOverlap : Type 0
QuorumsOverlap =
    (c : Choice) (earlier present base quorum earlier' present' base' quorum' everyone : ℕ) → Admitted c
    → PhaseNumbers c earlier present base quorum → PhaseNumbers c earlier' present' base' quorum'
    → c.nmin ≤ present' → 100 ^ 2 * present' ≤ P c ^ 2 * earlier' → 100 ^ 2 * everyone ≤ P c ^ 2 * present'
    → 100 ^ 4 * present' ≤ P c ^ 4 * earlier → M c ^ 2 * present ≤ 100 ^ 2 * present'
    → everyone < quorum + quorum'
