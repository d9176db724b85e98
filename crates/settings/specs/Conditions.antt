-- The five conditions. What the rules subtract on one side is added on the other, so that no number is below 0.
use Rattle.std.specs.Prelude.{ℕ, suc, ◌+◌, ◌-◌, ◌*◌, ◌^◌, ◌≤◌, Bool, nat_le}
use Rattle.settings.specs.declared.choice.Choice.{Choice}

-- two sides, of which the first has to be at most the second
pub record Sides : Type 0 where
  pub small : ℕ
  pub large : ℕ

-- the test that the condition is met
abbrev pub met : Sides → Bool
met s = nat_le s.small s.large

-- the same as a fact
abbrev pub Met : Sides → Type 0
Met s = s.small ≤ s.large

-- the second power
abbrev pub square : ℕ → ℕ
square x = x * x

-- the third power
abbrev pub cube : ℕ → ℕ
cube x = x * x * x

-- P: how far churn may raise the number of stations, in hundredths
abbrev pub P : Choice → ℕ
P c = 100 + c.alpha

-- M: how far churn may lower it, in hundredths
abbrev pub M : Choice → ℕ
M c = 100 - c.alpha

-- the powers of P
abbrev pub P² : Choice → ℕ
P² c = square (P c)

abbrev pub P³ : Choice → ℕ
P³ c = cube (P c)

abbrev pub P⁴ : Choice → ℕ
P⁴ c = square (P² c)

abbrev pub P⁶ : Choice → ℕ
P⁶ c = square (P³ c)

-- the powers of M
abbrev pub M² : Choice → ℕ
M² c = square (M c)

abbrev pub M³ : Choice → ℕ
M³ c = cube (M c)

abbrev pub M⁶ : Choice → ℕ
M⁶ c = square (M³ c)

-- 11: nmin (100 M³ - delta P³) ≥ 10⁸, of the stations that stay through churn one is not crashed
abbrev pub survivors : Choice → Sides
survivors c = record { small = 10 ^ 8 + c.nmin * (c.delta * P³ c); large = c.nmin * (100 * M³ c) }

-- 12: nmin ((100 + gamma) M³ - (100 + delta) P³) ≥ 10⁸, a station that joins hears a joined one
abbrev pub joiners : Choice → Sides
joiners c = record { small = 10 ^ 8 + c.nmin * ((100 + c.delta) * P³ c); large = c.nmin * ((100 + c.gamma) * M³ c) }

-- 13: (gamma + delta) P³ ≤ 100 M³, a station that joins gets the echoes that it waits for
abbrev pub join_bound : Choice → Sides
join_bound c = record { small = (c.gamma + c.delta) * P³ c; large = 100 * M³ c }

-- 14: 100 beta P² + delta P³ ≤ 100 M³, a phase gets the answers that it waits for
abbrev pub quorum : Choice → Sides
quorum c = record { small = 100 * c.beta * P² c + c.delta * P³ c; large = 100 * M³ c }

-- 15: beta (10⁴ M⁶ + M⁶ P²) > 100 P⁶ M² + beta delta (10⁶ P⁴ + 100 P⁴ M²), two quorums meet; `suc` makes it strict
abbrev pub quorums : Choice → Sides
quorums c = record {
  small = suc (100 * P⁶ c * M² c + c.beta * c.delta * (10 ^ 6 * P⁴ c + 100 * P⁴ c * M² c));
  large = c.beta * (10 ^ 4 * M⁶ c + M⁶ c * P² c);
}
