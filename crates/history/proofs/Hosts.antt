-- A byte of the host's: what is going is broken off, and the command may leave a reply to be sent.
use Prim.Native.Nat.{ℕ}
use mathlib.Core.Path.{◌≡◌, refl, ◌∙◌, ap}
use mathlib.Core.Bool.{Bool, true, false}
use mathlib.Core.List.{List, [], ◌∷◌, append-nil}
use lib.Dec.{lit<, lit≤}
use Rattle.frames.specs.Passages.{nothing, first, part_words}
use Rattle.frames.specs.Sender.{told, broken_off}
use Rattle.frames.proofs.Sender.{breaks}
use Rattle.wire.specs.Messages.{Message, message_bytes}
use Rattle.ballbox.specs.Box.{going_from, dormant}
use Rattle.ballbox.specs.Commands.{command_of, reply_to, obeyed}
use Rattle.ballbox.specs.Events.{bytes_left, dropped, on_host}
use Rattle.ballbox.specs.declared.BallBox.{BallBox}
use Rattle.ballbox.specs.declared.Command.{Command}
use Rattle.ballbox.specs.declared.Command.TheVariants.{SetFormat, SetStream, SetPrompt, AskReport, AskAck, AskCode, AskLetters, AskButtons, Sleep, Ignored}
use Rattle.ballbox.proofs.Cases.{dropped_idle}
use Rattle.ballbox.proofs.Obeying.{dropped_settings, dropped_awake}
use Rattle.history.specs.History.{unsent_reply}
use Rattle.history.specs.Carried.{Carries}
use Rattle.history.proofs.Carries.{Sends}
use Rattle.history.proofs.Sending.{bytes_left_lem}

-- a reply to be sent, of which nothing has gone
reply_words : (bytes : List ℕ) → part_words message_bytes (unsent_reply bytes) ≡ []
reply_words [] = refl
reply_words (b ∷ bytes) = refl

-- what a command leaves, where no bytes are left
obeyed_carries : (b : BallBox) (c : Command) → bytes_left b ≡ false → dormant b ≡ false → Carries (obeyed c b) (unsent_reply (reply_to b c))
unfolding obeyed going_from
obeyed_carries b (SetFormat f) e d = e
obeyed_carries b (SetStream m) e d = e
obeyed_carries b SetPrompt e d = e
obeyed_carries b AskReport e d = e
obeyed_carries b AskAck e d = (refl, record { left = lit< tt; sendable = lit≤ tt; awake = d })
obeyed_carries b AskCode e d = (refl, record { left = lit< tt; sendable = lit≤ tt; awake = d })
obeyed_carries b AskLetters e d = (refl, record { left = lit< tt; sendable = lit≤ tt; awake = d })
obeyed_carries b AskButtons e d = (refl, record { left = lit< tt; sendable = lit≤ tt; awake = d })
obeyed_carries b Sleep e d = e
obeyed_carries b Ignored e d = e

-- a reply tells what is set, whatever was going
same_reply : (b c : BallBox) (k : Command) → c.settings ≡ b.settings → reply_to c k ≡ reply_to b k
same_reply b c (SetFormat f) e = refl
same_reply b c (SetStream m) e = refl
same_reply b c SetPrompt e = refl
same_reply b c AskReport e = refl
same_reply b c AskAck e = refl
same_reply b c AskCode e = rw e
same_reply b c AskLetters e = rw e
same_reply b c AskButtons e = rw e
same_reply b c Sleep e = refl
same_reply b c Ignored e = refl

pub none_left : (b : BallBox) → bytes_left (dropped b) ≡ false
unfolding dropped
none_left b = go (bytes_left b) refl
  where
    go : (t : Bool) → bytes_left b ≡ t → bytes_left (dropped b) ≡ false
    go true e = rw e
    go false e = ap bytes_left (dropped_idle b e) ∙ e

heard_carries : (b : BallBox) (byte : ℕ) → dormant b ≡ false → Carries (on_host byte b).next (unsent_reply (reply_to b (command_of byte)))
unfolding on_host
heard_carries b byte d =
    rw (← same_reply b (dropped b) (command_of byte) (dropped_settings b)) (obeyed_carries (dropped b) (command_of byte) (none_left b) (dropped_awake b ∙ d))

pub host_idle : (b : BallBox) (byte : ℕ) → dormant b ≡ false → bytes_left b ≡ false → Sends (on_host byte b) nothing (told [] (unsent_reply (reply_to b (command_of byte))))
unfolding on_host
host_idle b byte d e = record { words = rw (e, reply_words (reply_to b (command_of byte))); carries = heard_carries b byte d }

pub host_busy : (b : BallBox) (byte n : ℕ) (m : Message) → dormant b ≡ false → Carries b (first n m)
    → Sends (on_host byte b) (first n m) (told (broken_off (first n m)) (unsent_reply (reply_to b (command_of byte))))
unfolding on_host
host_busy b byte n m d h =
    let e = bytes_left_lem b n m h in
    record { words = rw (e, reply_words (reply_to b (command_of byte)), append-nil) (breaks message_bytes n m); carries = heard_carries b byte d }
