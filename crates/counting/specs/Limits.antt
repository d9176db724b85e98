-- The limits that a run keeps, of a census of its positions, and what they give of its stations under admitted settings.
use Rattle.std.specs.Prelude.{◌≡◌, ℕ, ◌+◌, ◌*◌, ◌<◌, ◌≤◌, Bool, true}
use Rattle.stations.specs.Members.{only}
use Rattle.settings.specs.declared.choice.Choice.{Choice}
use Rattle.settings.specs.Admission.{Admitted}
use Rattle.counting.specs.Census.{Census, Within, Around, gone, active, lasting, number, present_number, crashed_number, entered_number, left_number}
use Rattle.counting.specs.Marks.{Marks, Near, back}

-- From a mark through one window few enter or leave; at each position enough are present, and of them few are crashed.
pub record Limits {last : ℕ} (m : Marks last) (c : Choice) (z : Census) : Type 0 where
  pub churn : (t b : ℕ) → Near m c.d 1 t b
      → 100 * (entered_number z (m.mark t) b + left_number z (m.mark t) b) ≤ c.alpha * present_number z (m.mark t)
  pub enough : (b : ℕ) → b ≤ last → c.nmin ≤ present_number z b
  pub few_crashed : (b : ℕ) → b ≤ last → 100 * crashed_number z b ≤ c.delta * present_number z b

module _ {last : ℕ} (m : Marks last) (c : Choice) (z : Census) where
  -- over three windows, someone who was present stays active
  abbrev pub SomeoneStays : Type 0
  SomeoneStays =
      (t b : ℕ) → Near m c.d 3 t b
      → (q : ℕ) × (q < z.table) × (z.present (m.mark t) q ≡ true) × (active z b q ≡ true)

  -- Someone who was present and was counted stays active, where those counted are gamma of those known,
  -- and whoever was present and has not left by y is known.
  abbrev pub SomeoneCountedStays : Type 0
  SomeoneCountedStays =
      (t b y : ℕ) (known counted : ℕ → Bool) → Near m c.d 3 t b → Near m c.d 3 t y
      → Within z.table (only (z.present (m.mark t)) (gone z y)) known
      → c.gamma * number z known ≤ 100 * number z counted → Around z (m.mark t) b counted
      → (q : ℕ) × (q < z.table) × (counted q ≡ true) × (z.present (m.mark t) q ≡ true) × (active z b q ≡ true)

  -- the echoes of all that stay active are gamma of those known at y
  abbrev pub EnoughEcho : Type 0
  EnoughEcho =
      (t b y : ℕ) (known echoed : ℕ → Bool) → Near m c.d 3 t b → Near m c.d 3 t y → Around z (m.mark t) y known
      → Within z.table (lasting z (m.mark t) b) echoed
      → c.gamma * number z known ≤ 100 * number z echoed

  -- the replies of all that stay active are beta of the members known at y
  abbrev pub EnoughReply : Type 0
  EnoughReply =
      (t b y : ℕ) (members replied : ℕ → Bool) → Near m c.d 3 t b → Near m c.d 2 t y → Around z (m.mark t) y members
      → Within z.table (lasting z (m.mark t) b) replied
      → c.beta * number z members ≤ 100 * number z replied

  -- A phase that began at r and ended with a quorum: beta of the members known at r. Whoever was present four windows before,
  -- was active two windows before and has not left is a known member.
  pub record Phase (r : ℕ) (members quorum : ℕ → Bool) : Type 0 where
    pub by_last : r ≤ last
    pub known : Within z.table (only (lasting z (back m c.d 4 r) (back m c.d 2 r)) (gone z r)) members
    pub share : c.beta * number z members ≤ 100 * number z quorum

  -- The quorums of a phase that began at w and of one that began at r, at most two windows later, have a station in common,
  -- where all of both are in use by s, in the tick of r, and none had left two windows before r.
  abbrev pub QuorumsMeet : Type 0
  QuorumsMeet =
      (w r s : ℕ) (members quorum members' quorum' : ℕ → Bool) → Phase w members quorum → Phase r members' quorum'
      → m.clock w ≤ m.clock r → m.clock r ≤ m.clock w + 2 * c.d → s ≤ last → m.clock s ≡ m.clock r
      → Around z (back m c.d 2 r) s quorum → Around z (back m c.d 2 r) s quorum'
      → (q : ℕ) × (q < z.table) × (quorum q ≡ true) × (quorum' q ≡ true)

-- the limits give all five, under admitted settings
abbrev pub LimitsSuffice : Type 0
LimitsSuffice =
    (last : ℕ) (m : Marks last) (c : Choice) (z : Census) → Admitted c → Limits m c z
    → SomeoneStays m c z × SomeoneCountedStays m c z × EnoughEcho m c z × EnoughReply m c z × QuorumsMeet m c z

-- the limits can be kept, for as long as one likes, by any number of stations that is not below the least
abbrev pub LimitsCanBeKept : Type 0
LimitsCanBeKept = (last : ℕ) (c : Choice) (n : ℕ) → c.nmin ≤ n → (m : Marks last) × (z : Census) × (z.table ≡ n) × Limits m c z
