-- What memory shows of a station and of what it says: sets kept as words, as tests on station numbers.
use Rattle.std.specs.Prelude.{Some, None, Option}
use Rattle.stations.specs.Members.{member}
use Rattle.stations.specs.declared.Stations.{Stations}
use Rattle.network.specs.declared.content.Content.{Content}
use Rattle.network.specs.declared.content.Content.TheVariants.{Enter, EnterEcho, Joined, JoinedEcho, Leave, LeaveEcho, Query, Response, Update, Ack, UpdateEcho}
use Rattle.network.specs.declared.known.Known.{Known}
use Rattle.network.specs.declared.letter.Letter.{Letter}
use Rattle.network.specs.declared.letter.Speech.{Speech}
use Rattle.network.specs.declared.letter.Speech.TheVariants.{Silent, One, Two}
use Rattle.network.specs.declared.station.Station.{Station}
use Rattle.network.specs.Knowing.{Set}

abbrev pub shown_known : Known Stations → Known Set
shown_known k = record { entered = member k.entered; joined = member k.joined; left = member k.left }

module _ {R : Type 0} where
  abbrev pub shown : Station R Stations → Station R Set
  shown x = record { life = x.life; crashed = x.crashed; joined = x.joined; known = shown_known x.known; register = x.register; echoes = x.echoes; bound = x.bound; operation = x.operation }

  abbrev pub shown_content : Content R Stations → Content R Set
  shown_content (Enter p) = Enter p
  shown_content (EnterEcho k v f p) = EnterEcho (shown_known k) v f p
  shown_content (Joined p) = Joined p
  shown_content (JoinedEcho p) = JoinedEcho p
  shown_content (Leave p) = Leave p
  shown_content (LeaveEcho p) = LeaveEcho p
  shown_content (Query p tag) = Query p tag
  shown_content (Response v tag) = Response v tag
  shown_content (Update v tag p) = Update v tag p
  shown_content (Ack tag) = Ack tag
  shown_content (UpdateEcho v) = UpdateEcho v

  abbrev pub shown_letter : Letter R Stations → Letter R Set
  shown_letter l = record { to = l.to; content = shown_content l.content }

  abbrev pub shown_speech : Speech R Stations → Speech R Set
  shown_speech Silent = Silent
  shown_speech (One a) = One (shown_letter a)
  shown_speech (Two a b) = Two (shown_letter a) (shown_letter b)

  -- a speech, or none where a number could not rise
  abbrev pub shown_answer : Option (Speech R Stations) → Option (Speech R Set)
  shown_answer None = None
  shown_answer (Some s) = Some (shown_speech s)
