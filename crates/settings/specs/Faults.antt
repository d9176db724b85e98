-- What a caller is told of each fault.
use Rattle.std.specs.Prelude.{ℕ, Ok, Err, Result}
use Rattle.refusals.specs.declared.Refusal.{Refusal}
use Rattle.refusals.specs.declared.Layer.TheVariants.{Settings}
use Rattle.settings.specs.declared.fault.SettingsFault.{SettingsFault}
use Rattle.settings.specs.declared.fault.SettingsFault.TheVariants.{Range, SurvivorsTooFew, JoinersUnheard, JoinBoundTooHigh, QuorumTooHigh, QuorumsApart, TooFewStations, MemorySize}

-- a refusal of this number, by who chooses settings; it has no place
abbrev pub numbered : ℕ → Refusal
numbered n = record { number = n; layer = Settings; place = 0 }

-- the refusal of each fault
abbrev pub told : SettingsFault → Refusal
told Range = numbered 10
told SurvivorsTooFew = numbered 11
told JoinersUnheard = numbered 12
told JoinBoundTooHigh = numbered 13
told QuorumTooHigh = numbered 14
told QuorumsApart = numbered 15
told TooFewStations = numbered 16
told MemorySize = numbered 17

-- what a call came to: what it gave, as the rules see it, or what its caller is told
abbrev pub outcome : {A B : Type 0} → Result A SettingsFault → (A → B) → Result B Refusal
outcome (Ok x) seen = Ok (seen x)
outcome (Err fault) seen = Err (told fault)
