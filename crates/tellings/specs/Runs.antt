-- Runs of the box with commands that have a reply: what reaches the host's half of them.
use Rattle.std.specs.Prelude.{ℕ, suc, Bool, not, cond, ◌||◌, List, [], ◌∷◌, ◌++◌, eqb}
use Rattle.ballbox.specs.Commands.{asks_for_reports, space, letterf, lettert}
use Rattle.ballbox.specs.Promises.{sent_words}
use Rattle.ballbox.specs.declared.BallBox.{BallBox}
use Rattle.ballbox.specs.declared.Event.{Event}
use Rattle.ballbox.specs.declared.Event.TheVariants.{Motion, Buttons, Host, Latch, Send, Period}
use Rattle.ballbox.specs.declared.Stepped.{Stepped}
use Rattle.history.specs.Asked.{all_hosts}
use Rattle.replies.specs.Replying.{is_none}
use Rattle.replies.specs.Rules.{reply_to}
use Rattle.tellings.specs.Items.{Item, telling, as_items}
use Rattle.replies.specs.declared.Asked.TheVariants.{Command}
use Rattle.replies.specs.declared.Reply.{Reply}
use Rattle.replies.specs.declared.Reply.TheVariants as reply

-- "runs with `f` and `t`": no host byte but J K L R M Q N O D P, and those that have a reply: `f`, `t`, and a space and 05H too
abbrev pub has_reply : ℕ → Bool
has_reply byte = not (is_none (reply_to byte))

abbrev pub asks_or_tells : ℕ → Bool
asks_or_tells byte = asks_for_reports byte || has_reply byte

abbrev pub only_asks_or_tells : List Event → Bool
only_asks_or_tells events = all_hosts asks_or_tells events

-- what the reply to a command tells: ACK, or the format, the format and the mode, or the buttons that the box has
abbrev pub answer_of : BallBox → ℕ → Reply
answer_of b byte =
    cond (eqb byte space) reply.Ack
    (cond (eqb byte letterf) (reply.Format b.settings.format)
    (cond (eqb byte lettert) (reply.Letters b.settings.format b.settings.mode)
    (reply.Buttons b.settings.buttons)))

-- "the reader is told of each"
abbrev pub telling_of : Event → List Item
telling_of (Motion dx dy) = []
telling_of (Buttons n) = []
telling_of (Host byte) = cond (is_none (reply_to byte)) [] (telling (Command byte) ∷ [])
telling_of Latch = []
telling_of Send = []
telling_of Period = []

-- "It is told after any 256 the command itself caused": the words of each step, and then the telling
abbrev pub items_given : List Event → List Stepped → List Item
items_given [] answers = []
items_given (e ∷ events) [] = []
items_given (e ∷ events) (a ∷ answers) = as_items (sent_words a) ++ (telling_of e ++ items_given events answers)

-- the Sends among events
abbrev pub sends_in : List Event → ℕ
sends_in [] = 0
sends_in (Motion dx dy ∷ events) = sends_in events
sends_in (Buttons n ∷ events) = sends_in events
sends_in (Host byte ∷ events) = sends_in events
sends_in (Latch ∷ events) = sends_in events
sends_in (Send ∷ events) = suc (sends_in events)
sends_in (Period ∷ events) = sends_in events
