-- The messages of a step, and the state after they are posted.
use Rattle.std.specs.Prelude.{◌≡◌, ◌+◌, List, [], ◌∷◌, length, map}
use Rattle.carrier.specs.declared.message.Post.{Post}
use Rattle.stations.specs.declared.Stations.{Stations}
use Rattle.network.specs.declared.content.Content.{Content}
use Rattle.network.specs.Posting.{with_mails}
use Rattle.network.specs.States.{Mail, State}
use Rattle.engine.specs.declared.mails.Mails.{Mails}
use Rattle.engine.specs.declared.mails.Mails.TheVariants.{Nothing, One, Two}
use Rattle.engine.specs.declared.memory.Memory.{Memory}
use Rattle.engine.specs.Copies.{shown_post}

module _ {R : Type 0} where
  -- the messages in their order
  abbrev pub posts_of : Mails R → List (Post (Content R Stations))
  posts_of Nothing = []
  posts_of (One a) = a ∷ []
  posts_of (Two a b) = a ∷ b ∷ []

  abbrev pub shown_mails : Mails R → List (Mail R)
  shown_mails ms = map shown_post (posts_of ms)

  -- messages are posted, and take their numbers
  abbrev pub after_mails : List (Mail R) → State R → State R
  after_mails ms s = record {
    stations = s.stations;
    waits = with_mails ms s.waits;
    next = s.next + length ms;
    log = s.log;
    book = s.book;
    clock = s.clock;
  }

-- nothing but the carrier and the next number may differ
abbrev pub SameBeside : {R C : Type 0} → Memory R C → Memory R C → Type 0
SameBeside old new =
    new ≡ record {
      settings = old.settings;
      first = old.first;
      stations = old.stations;
      table = old.table;
      carrier = new.carrier;
      log = old.log;
      book = old.book;
      clock = old.clock;
      next = new.next;
      present = old.present;
      active = old.active;
    }
