-- What each step changes before anything is sent, and what is then sent.
use Rattle.std.specs.Prelude.{ℕ, ◌+◌, cond, List, [], ◌∷◌, Some, None, Option, ◌==◌}
use Rattle.carrier.specs.Waits.{without, except}
use Rattle.stations.specs.Members.{put}
use Rattle.network.specs.declared.content.Content.{Content}
use Rattle.network.specs.declared.content.Content.TheVariants.{Enter, EnterEcho, Joined, JoinedEcho, Leave, LeaveEcho, Query, Response, Update, Ack, UpdateEcho}
use Rattle.network.specs.declared.entry.Entry.{Entry}
use Rattle.network.specs.declared.letter.Letter.{Letter}
use Rattle.network.specs.declared.operation.Operation.{Operation}
use Rattle.network.specs.declared.operation.Operation.TheVariants.{Idle, PhaseOne, PhaseTwo}
use Rattle.network.specs.declared.operation.Task.{Task}
use Rattle.network.specs.declared.operation.Task.TheVariants as task
use Rattle.network.specs.declared.station.Life.TheVariants.{Left}
use Rattle.network.specs.declared.station.Station.{Station}
use Rattle.network.specs.declared.step.Step.{Step}
use Rattle.network.specs.declared.step.Step.TheVariants as step
use Rattle.network.specs.Books.{with_move, end_tick}
use Rattle.network.specs.Hearing.{hear}
use Rattle.network.specs.Keeping.{tag_of, with_life, with_crashed, with_operation, newcomer}
use Rattle.network.specs.Knowing.{Set, member_count}
use Rattle.network.specs.Logs.{open_entry, at_latest, count_one, count_two, close}
use Rattle.network.specs.Polls.{new_poll}
use Rattle.network.specs.Saying.{letters, to_all, says}
use Rattle.network.specs.States.{Copy, Setup, State, present_total, with_stations, with_waits, with_log, with_book}

module _ {R : Type 0} where
  -- an operation begins: the next tag, the base of the members now known, and no replies
  abbrev pub begin : Task R → Station R Set → Station R Set
  begin t x = with_operation (PhaseOne t (new_poll (tag_of x.operation + 1) (member_count x.known))) x

  -- the log entry of an operation that hears a response: a reply that counts is shown
  abbrev pub log_response : ℕ → Operation R → Entry R → Entry R
  log_response tag (Idle own) e = e
  log_response tag (PhaseOne t poll) e = cond (tag == poll.tag) (count_one e) e
  log_response tag (PhaseTwo k poll kept) e = e

  -- the log entry of an operation in phase two that counted an ack: it may have ended
  abbrev pub log_counted : ℕ → R → Operation R → Entry R → Entry R
  log_counted clock kept (Idle own) e = close kept clock e
  log_counted clock kept (PhaseOne t poll) e = count_two e
  log_counted clock kept (PhaseTwo k poll kept_too) e = count_two e

  -- the log entry of an operation that hears an ack, by the operation after
  abbrev pub log_ack : ℕ → ℕ → Operation R → Operation R → Entry R → Entry R
  log_ack clock tag (Idle own) after e = e
  log_ack clock tag (PhaseOne t poll) after e = e
  log_ack clock tag (PhaseTwo k poll kept) after e = cond (tag == poll.tag) (log_counted clock kept after e) e

  -- the latest entry of a station that hears a message: x before, y after
  unfoldable pub log_heard : ℕ → Content R Set → Station R Set → Station R Set → Entry R → Entry R
  log_heard clock (Enter p) x y e = e
  log_heard clock (EnterEcho known offer f p) x y e = e
  log_heard clock (Joined p) x y e = e
  log_heard clock (JoinedEcho p) x y e = e
  log_heard clock (Leave p) x y e = e
  log_heard clock (LeaveEcho p) x y e = e
  log_heard clock (Query p tag) x y e = e
  log_heard clock (Response offer tag) x y e = log_response tag x.operation e
  log_heard clock (Update offer tag p) x y e = e
  log_heard clock (Ack tag) x y e = log_ack clock tag x.operation y.operation e
  log_heard clock (UpdateEcho offer) x y e = e

  -- tick: the clock rises by 1, and a row of the limit book ends
  abbrev pub ticked : Setup R → State R → State R
  ticked u s = record {
    stations = s.stations;
    waits = s.waits;
    next = s.next;
    log = s.log;
    book = end_tick u.choice.d (present_total s) s.book;
    clock = s.clock + 1;
  }

  -- enter p
  abbrev pub entered : Setup R → ℕ → State R → State R
  entered u p s = with_book (with_move s.book) (with_stations (put s.stations p (newcomer u.first p)) s)

  -- leave p: the copies that wait for it are dropped
  abbrev pub departed : ℕ → State R → State R
  departed p s = with_book (with_move s.book) (with_waits (except p s.waits) (with_stations (put s.stations p (with_life Left (s.stations p))) s))

  -- crash p: the copies that wait for it are dropped
  abbrev pub crashed : ℕ → State R → State R
  crashed p s = with_waits (except p s.waits) (with_stations (put s.stations p (with_crashed (s.stations p))) s)

  -- read p, write p: a log entry opens
  abbrev pub begun : Setup R → ℕ → Task R → State R → State R
  begun u p t s = with_log (open_entry u.first p t s.clock s.log) (with_stations (put s.stations p (begin t (s.stations p))) s)

  -- q as it is after it has heard a content
  abbrev pub heard : Setup R → ℕ → Content R Set → State R → Station R Set
  heard u q m s = hear u.choice q m (s.stations q)

  -- deliver: the copy is taken and applied to q
  abbrev pub applied : Setup R → ℕ → ℕ → Content R Set → State R → State R
  applied u n q m s =
      with_log (at_latest q (log_heard s.clock m (s.stations q) (heard u q m s)) s.log)
      (with_waits (without n q s.waits) (with_stations (put s.stations q (heard u q m s)) s))

  -- deliver, where the copy waits
  abbrev pub delivered : Setup R → ℕ → ℕ → Option (Copy R) → State R → State R
  delivered u n q None s = s
  delivered u n q (Some c) s = applied u n q c.content s

  -- what q says, where the copy waits
  abbrev pub answer : Setup R → ℕ → Option (Copy R) → State R → List (Letter R Set)
  answer u q None s = []
  answer u q (Some c) s = letters (says q c.content (s.stations q) (heard u q c.content s))

  -- what a step changes before anything is sent
  unfoldable pub changed : Setup R → Step R → State R → State R
  changed u step.Tick s = ticked u s
  changed u (step.Enter p) s = entered u p s
  changed u (step.Leave p) s = departed p s
  changed u (step.Crash p) s = crashed p s
  changed u (step.Read p) s = begun u p task.Read s
  changed u (step.Write p r) s = begun u p (task.Write r) s
  changed u (step.Deliver n q) s = delivered u n q (s.waits n q) s

  -- what a step then sends
  unfoldable pub said : Setup R → Step R → State R → List (Letter R Set)
  said u step.Tick s = []
  said u (step.Enter p) s = to_all (Enter p) ∷ []
  said u (step.Leave p) s = to_all (Leave p) ∷ []
  said u (step.Crash p) s = []
  said u (step.Read p) s = to_all (Query p (tag_of (s.stations p).operation + 1)) ∷ []
  said u (step.Write p r) s = to_all (Query p (tag_of (s.stations p).operation + 1)) ∷ []
  said u (step.Deliver n q) s = answer u q (s.waits n q) s

-- the station that a step is about, which is the sender of what is sent
abbrev pub actor : {R : Type 0} → Step R → ℕ
actor step.Tick = 0
actor (step.Enter p) = p
actor (step.Leave p) = p
actor (step.Crash p) = p
actor (step.Read p) = p
actor (step.Write p r) = p
actor (step.Deliver n q) = q
