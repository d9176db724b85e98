-- Sending: letters become messages with numbers, and copies for those who are active.
use Rattle.std.specs.Prelude.{ℕ, ◌+◌, Bool, cond, ◌&&◌, List, [], ◌∷◌, length, Some, ◌==◌, nat_lt}
use Rattle.carrier.specs.Waits.{Waits}
use Rattle.stations.specs.Members.{how_many}
use Rattle.network.specs.declared.letter.Letter.{Letter}
use Rattle.network.specs.declared.letter.To.{To}
use Rattle.network.specs.declared.letter.To.TheVariants.{All, Only}
use Rattle.network.specs.Knowing.{Set, most_stations}
use Rattle.network.specs.States.{Copy, Mail, State, active_set}

-- the receivers of a letter, of those who are active
abbrev pub receivers : To → Set → Set
receivers All who q = who q
receivers (Only p) who q = q == p && who q

-- whether a set has a member
abbrev pub anybody : Set → Bool
anybody who = nat_lt 0 (how_many who most_stations)

module _ {R : Type 0} where
  -- the message of a letter from p, under a number
  abbrev pub mail : ℕ → ℕ → Set → ℕ → Letter R Set → Mail R
  mail p clock who number l = record { number = number; to = receivers l.to who; copy = record { from = p; content = l.content; sent = clock } }

  -- the messages of letters, numbered from n on; one without a receiver is no message and takes no number
  unfoldable pub mails : ℕ → ℕ → Set → ℕ → List (Letter R Set) → List (Mail R)
  mails p clock who n [] = []
  mails p clock who n (l ∷ ls) =
      cond (anybody (receivers l.to who)) (mail p clock who n l ∷ mails p clock who (n + 1) ls) (mails p clock who n ls)

  -- a copy more for each receiver
  unfoldable pub with_mail : Mail R → Waits (Copy R) → Waits (Copy R)
  with_mail m w n q = cond (n == m.number && m.to q) (Some m.copy) (w n q)

  abbrev pub with_mails : List (Mail R) → Waits (Copy R) → Waits (Copy R)
  with_mails [] w = w
  with_mails (m ∷ ms) w = with_mails ms (with_mail m w)

  -- the messages that p sends in a state
  abbrev pub sent_by : ℕ → List (Letter R Set) → State R → List (Mail R)
  sent_by p ls s = mails p s.clock (active_set s) s.next ls

  -- p sends letters: the messages are posted, and take their numbers
  abbrev pub send : ℕ → List (Letter R Set) → State R → State R
  send p ls s = record {
    stations = s.stations;
    waits = with_mails (sent_by p ls s) s.waits;
    next = s.next + length (sent_by p ls s);
    log = s.log;
    book = s.book;
    clock = s.clock;
  }
