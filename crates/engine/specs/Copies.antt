-- What memory shows of a copy and of a message that is to be posted, and how memory would keep what is shown.
use Rattle.std.specs.Prelude.{map, option_map}
use Rattle.carrier.specs.Laws.{Room as RoomRule}
use Rattle.carrier.specs.Waits.{Waits}
use Rattle.carrier.specs.declared.message.Held.{Held}
use Rattle.carrier.specs.declared.message.Post.{Post}
use Rattle.stations.specs.Members.{member, set_of}
use Rattle.stations.specs.declared.Stations.{Stations}
use Rattle.network.specs.declared.content.Content.{Content}
use Rattle.network.specs.declared.content.Content.TheVariants.{Enter, EnterEcho, Joined, JoinedEcho, Leave, LeaveEcho, Query, Response, Update, Ack, UpdateEcho}
use Rattle.network.specs.declared.known.Known.{Known}
use Rattle.network.specs.Knowing.{Set}
use Rattle.network.specs.Shown.{shown_content}
use Rattle.network.specs.States.{Copy, Mail, Room}

abbrev pub kept_known : Known Set → Known Stations
kept_known k = record { entered = set_of k.entered; joined = set_of k.joined; left = set_of k.left }

module _ {R : Type 0} where
  -- a content with its sets as words
  abbrev pub kept_content : Content R Set → Content R Stations
  kept_content (Enter p) = Enter p
  kept_content (EnterEcho k v f p) = EnterEcho (kept_known k) v f p
  kept_content (Joined p) = Joined p
  kept_content (JoinedEcho p) = JoinedEcho p
  kept_content (Leave p) = Leave p
  kept_content (LeaveEcho p) = LeaveEcho p
  kept_content (Query p tag) = Query p tag
  kept_content (Response v tag) = Response v tag
  kept_content (Update v tag p) = Update v tag p
  kept_content (Ack tag) = Ack tag
  kept_content (UpdateEcho v) = UpdateEcho v

  abbrev pub shown_copy : Held (Content R Stations) → Copy R
  shown_copy c = record { from = c.from; content = shown_content c.content; sent = c.sent }

  abbrev pub kept_copy : Copy R → Held (Content R Stations)
  kept_copy c = record { from = c.from; content = kept_content c.content; sent = c.sent }

  abbrev pub shown_post : Post (Content R Stations) → Mail R
  shown_post p = record { number = p.number; to = member p.to; copy = shown_copy p.held }

  abbrev pub kept_mail : Mail R → Post (Content R Stations)
  kept_mail m = record { number = m.number; held = kept_copy m.copy; to = set_of m.to }

  abbrev pub shown_waits : Waits (Held (Content R Stations)) → Waits (Copy R)
  shown_waits w n q = option_map shown_copy (w n q)

  abbrev pub kept_waits : Waits (Copy R) → Waits (Held (Content R Stations))
  kept_waits w n q = option_map kept_copy (w n q)

  -- a carrier's room rule, asked of what is shown
  abbrev pub shown_room : RoomRule (Content R Stations) → Room R
  shown_room room w ms = room (kept_waits w) (map kept_mail ms)
