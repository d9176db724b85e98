-- Who is counted where: the stations at the positions of a run, and how many came, left or crashed between two.
use Rattle.std.specs.Prelude.{◌≡◌, ℕ, ◌+◌, ◌<◌, ◌≤◌, Bool, true, not, ◌&&◌}
use Rattle.stations.specs.Members.{only, how_many}

-- in both
abbrev pub both : (ℕ → Bool) → (ℕ → Bool) → ℕ → Bool
both f g q = f q && g q

-- below n, whoever passes the first test passes the second
abbrev pub Within : ℕ → (ℕ → Bool) → (ℕ → Bool) → Type 0
Within n f g = (q : ℕ) → q < n → f q ≡ true → g q ≡ true

-- two sets of stations inside a third that is smaller than both together have a station in common
abbrev pub TwoLargeSetsMeet : Type 0
TwoLargeSetsMeet =
    (n : ℕ) (f g whole : ℕ → Bool) → Within n f whole → Within n g whole → how_many whole n < how_many f n + how_many g n
    → (q : ℕ) × (q < n) × (f q ≡ true) × (g q ≡ true)

-- Who is in use, present and crashed at each position. Who is present is in use, and use and leaving are for good.
pub record Census : Type 0 where
  -- the number of stations there can be
  pub table : ℕ
  pub used : ℕ → ℕ → Bool
  pub present : ℕ → ℕ → Bool
  pub crashed : ℕ → ℕ → Bool
  pub present_used : (a q : ℕ) → present a q ≡ true → used a q ≡ true
  pub used_on : (a b q : ℕ) → a ≤ b → used a q ≡ true → used b q ≡ true
  pub gone_on : (a b q : ℕ) → a ≤ b → only (used a) (present a) q ≡ true → only (used b) (present b) q ≡ true

module _ (z : Census) where
  -- who has left by a position
  abbrev pub gone : ℕ → ℕ → Bool
  gone a = only (z.used a) (z.present a)

  -- who is present there, and not crashed
  abbrev pub active : ℕ → ℕ → Bool
  active a = only (z.present a) (z.crashed a)

  -- who is present at the first position, and active at the second
  abbrev pub lasting : ℕ → ℕ → ℕ → Bool
  lasting a b = both (z.present a) (active b)

  -- all of a set are in use by b, and none had left by a
  pub record Around (a b : ℕ) (f : ℕ → Bool) : Type 0 where
    pub used : Within z.table f (z.used b)
    pub not_gone : Within z.table f (λ q. not (gone a q))

  -- how many stations pass a test
  abbrev pub number : (ℕ → Bool) → ℕ
  number f = how_many f z.table

  -- how many are present
  abbrev pub present_number : ℕ → ℕ
  present_number a = number (z.present a)

  -- how many are present and crashed
  abbrev pub crashed_number : ℕ → ℕ
  crashed_number a = number (both (z.present a) (z.crashed a))

  -- how many entered between two positions
  abbrev pub entered_number : ℕ → ℕ → ℕ
  entered_number a b = number (only (z.used b) (z.used a))

  -- how many left between two positions
  abbrev pub left_number : ℕ → ℕ → ℕ
  left_number a b = number (only (gone b) (gone a))
