-- What reaches the host's half of a run with replies are the items of its passages.
use Prim.Native.Nat.{ℕ, ◌+◌}
use mathlib.Core.Path.{◌≡◌, refl, sym, ◌∙◌, ap}
use mathlib.Core.Bool.{Bool, true, false, cond, ◌&&◌}
use mathlib.Core.List.{List, [], ◌∷◌, ◌++◌, append_assoc, append-nil, map-append}
use lib.ListN.{length, take}
use lib.Dec.{eqb}
use Rattle.numbers.proofs.Choices.{cases, or_else}
use Rattle.numbers.proofs.Tested.{holds, left, right}
use Rattle.frames.specs.Words.{break}
use Rattle.frames.specs.Passages.{finished, broken, UnderWay, nothing, first, passage_words, part_words}
use Rattle.frames.specs.Sender.{Told, told, sent_one, passages_over, going_over}
use Rattle.wire.specs.Messages.{Latched, Message, report, reply, message_bytes}
use Rattle.wire.specs.declared.Format.{Format}
use Rattle.ballbox.specs.Box.{dormant}
use Rattle.ballbox.specs.Box as box
use Rattle.ballbox.specs.Commands.{command_of, asks_for_reports}
use Rattle.ballbox.specs.Commands as commands
use Rattle.ballbox.specs.Latching.{taken}
use Rattle.ballbox.specs.Events.{wanted, on_host, awake}
use Rattle.ballbox.specs.Good.{good}
use Rattle.ballbox.specs.Promises.{sent_words, above_seven, step_of}
use Rattle.ballbox.specs.declared.BallBox.{BallBox}
use Rattle.ballbox.specs.declared.Event.{Event}
use Rattle.ballbox.specs.declared.Event.TheVariants.{Motion, Buttons, Host, Latch, Send, Period}
use Rattle.ballbox.specs.declared.Stepped.{Stepped}
use Rattle.ballbox.proofs.Single.{says}
use Rattle.ballbox.proofs.Refusals.{ruled}
use Rattle.history.specs.Runs.{RunPromise}
use Rattle.history.specs.Asked.{hosts_pass, all_hosts}
use Rattle.history.specs.History.{begun, paired, with_pair, is_five, unsent_reply, when_awake, told_by, next_box, passages_of, going_after}
use Rattle.history.specs.Carried.{Carries, SetWith}
use Rattle.history.proofs.Sending.{bytes_left_lem}
use Rattle.history.proofs.Bridge.{step_sends, told_is}
use Rattle.history.proofs.Asking.{refused_told, hosted_step, asking_command, asking_reply}
use Rattle.replies.specs.Replying.{is_none}
use Rattle.replies.specs.Rules.{reply_to}
use Rattle.tellings.specs.Items.{Item, word, telling, as_items}
use Rattle.tellings.specs.Runs.{has_reply, asks_or_tells, telling_of, items_given}
use Rattle.tellings.specs.Lines.{asked_for, line_items, part_items}
use Rattle.tellings.proofs.Passed.{IsReply, items_append}
use Rattle.tellings.proofs.Answering.{asks_by, asks_reply, asks_for, with_replies}

-- a command's telling stands in front of its reply
abbrev unsent : BallBox → ℕ → List Item
unsent b byte = part_items (unsent_reply (commands.reply_to b (command_of byte)))

unsent_items : (bytes : List ℕ) → IsReply bytes → part_items (unsent_reply bytes) ≡ telling (asked_for bytes) ∷ []
unsent_items [] r = absurd r.whole
unsent_items (b ∷ bytes) r = refl

host_told : (b : BallBox) (byte : ℕ) → good b ≡ true → asks_or_tells byte ≡ true → telling_of (Host byte) ≡ unsent b byte
host_told b byte g t = go (is_none (reply_to byte)) refl
  where
    go : (n : Bool) → is_none (reply_to byte) ≡ n → telling_of (Host byte) ≡ unsent b byte
    go true n = rw (n, asking_reply b (command_of byte) (asking_command byte (asks_only n)))
      where
        asks_only : is_none (reply_to byte) ≡ true → asks_for_reports byte ≡ true
        asks_only n = or_else (asks_for_reports byte) (has_reply byte) (λ a. a) (λ h. absurd (holds (rw n at h))) t
    go false n =
        let asks = asks_by byte (rw n) in
        rw (n, unsent_items (commands.reply_to b (command_of byte)) (asks_reply b byte g asks), asks_for b byte g asks)

-- items of words, one list behind the other
as_items_lem : (u v w : List ℕ) → u ++ v ≡ w → as_items u ++ as_items v ≡ as_items w
as_items_lem u v w e = sym (map-append word u v) ∙ ap as_items e

-- one word more has gone: of a report, of a reply, or of nothing
abbrev Sends : UnderWay Message → List ℕ → Told Message → Type 0
Sends g ws t = part_items g ++ as_items ws ≡ line_items t.passages ++ part_items t.going

abbrev SendsWords : UnderWay Message → List ℕ → Told Message → Type 0
SendsWords g ws t = part_words message_bytes g ++ ws ≡ passage_words message_bytes t.passages ++ part_words message_bytes t.going

report_sends : (n : ℕ) (l k : Latched) (ws : List ℕ) → SendsWords (first n (report l)) ws (sent_one message_bytes (first n (report k))) → Sends (first n (report l)) ws (sent_one message_bytes (first n (report k)))
report_sends n l k ws = go (eqb (n + 1) (length (message_bytes (report k))))
  where
    go : (t : Bool) → let x : Told Message = cond t (told (finished (report k) ∷ []) nothing) (told [] (first (n + 1) (report k))) in SendsWords (first n (report l)) ws x → Sends (first n (report l)) ws x
    go true w = rw (append-nil, append-nil) (as_items_lem (take n (message_bytes (report l))) ws (message_bytes (report k)) (rw (append-nil, append-nil) at w))
    go false w = as_items_lem (take n (message_bytes (report l))) ws (take (n + 1) (message_bytes (report k))) w

reply_sends : (n : ℕ) (bytes ws : List ℕ) → SendsWords (first n (reply bytes)) ws (sent_one message_bytes (first n (reply bytes))) → Sends (first n (reply bytes)) ws (sent_one message_bytes (first n (reply bytes)))
reply_sends n bytes ws = go (eqb (n + 1) (length bytes))
  where
    go : (t : Bool) → let x : Told Message = cond t (told (finished (reply bytes) ∷ []) nothing) (told [] (first (n + 1) (reply bytes))) in SendsWords (first n (reply bytes)) ws x → Sends (first n (reply bytes)) ws x
    go true w = rw (append-nil, append-nil) (ap (λ (is : List Item). telling (asked_for bytes) ∷ is) (as_items_lem (take n bytes) ws bytes (rw (append-nil, append-nil) at w)))
    go false w = ap (λ (is : List Item). telling (asked_for bytes) ∷ is) (as_items_lem (take n bytes) ws (take (n + 1) bytes) w)

send_items : (b : BallBox) (g : UnderWay Message) (ws : List ℕ) → SendsWords g ws (sent_one message_bytes (paired b g)) → Sends g ws (sent_one message_bytes (paired b g))
send_items b nothing ws w = as_items_lem [] ws (257 ∷ []) w
send_items b (first n (report l)) ws w = go (is_five l.format && eqb n 3) w
  where
    go : (t : Bool)
        → let k : Message = cond t (report (record { format = l.format; report = with_pair (taken b.settings.format b.track) l.report; shows = l.shows })) (report l) in
        SendsWords (first n (report l)) ws (sent_one message_bytes (first n k))
        → Sends (first n (report l)) ws (sent_one message_bytes (first n k))
    go true w = report_sends n l (record { format = l.format; report = with_pair (taken b.settings.format b.track) l.report; shows = l.shows }) ws w
    go false w = report_sends n l l ws w
send_items b (first n (reply bytes)) ws w = reply_sends n bytes ws w

-- what is under way is broken off
broken_items : (n : ℕ) (m : Message) → part_items (first n m) ++ (word break ∷ []) ≡ line_items (broken n m ∷ [])
broken_items n (report l) = rw append-nil (as_items_lem (take n (message_bytes (report l))) (break ∷ []) _ refl)
broken_items n (reply bytes) = rw append-nil (ap (λ (is : List Item). telling (asked_for bytes) ∷ is) (as_items_lem (take n bytes) (break ∷ []) _ refl))

latch_items : (b : BallBox) (g : UnderWay Message) → part_items (begun b g) ≡ part_items g
latch_items b nothing = cases (λ (g : UnderWay Message). part_items g ≡ []) (wanted b) (λ _. refl) (λ _. refl)
latch_items b (first n m) = refl

-- an event of a box that is awake
abbrev Reaches : BallBox → Event → UnderWay Message → Told Message → Type 0
Reaches b e g t = part_items g ++ (as_items (step_of b e).words ++ telling_of e) ≡ line_items t.passages ++ part_items t.going

host_items : (b : BallBox) (byte : ℕ) (g : UnderWay Message) → good b ≡ true → dormant b ≡ false → Carries b g → asks_or_tells byte ≡ true → Reaches b (Host byte) g (when_awake b (Host byte) g)
unfolding awake on_host
host_items b byte nothing k d h t = rw (ruled b (Host byte) false k refl d, h) (host_told b byte k t)
host_items b byte (first n m) k d h t =
    rw (ruled b (Host byte) false k refl d, bytes_left_lem b n m h)
    (sym (append_assoc (part_items (first n m)) (word break ∷ []) (telling_of (Host byte))) ∙ rw (broken_items n m, host_told b byte k t))

awake_items : (b : BallBox) (e : Event) (g : UnderWay Message) → good b ≡ true → dormant b ≡ false → Carries b g → above_seven e ≡ false → hosts_pass asks_or_tells e ≡ true → Reaches b e g (when_awake b e g)
unfolding awake
awake_items b (Motion dx dy) g k d h p t = rw (ruled b (Motion dx dy) false k p d) (append-nil (part_items g))
awake_items b (Buttons n) g k d h p t = rw (ruled b (Buttons n) false k p d) (append-nil (part_items g))
awake_items b (Host byte) g k d h p t = host_items b byte g k d h t
awake_items b Latch g k d h p t = rw (ruled b Latch false k p d) (append-nil (part_items g) ∙ sym (latch_items b g))
awake_items b Send g k d h p t =
    rw append-nil (send_items b g (step_of b Send).words (rw (told_is b Send g false p d) at (step_sends b Send g k h).words))
awake_items b Period g k d h p t = rw (ruled b Period false k p d) (append-nil (part_items g))

refused_items : (b : BallBox) (e : Event) (g : UnderWay Message) → good b ≡ true → above_seven e ≡ true → Reaches b e g (told [] g)
unfolding step_of
refused_items b (Motion dx dy) g k p = absurd (holds p)
refused_items b (Buttons n) g k p = rw (k, p) (append-nil (part_items g))
refused_items b (Host byte) g k p = absurd (holds p)
refused_items b Latch g k p = absurd (holds p)
refused_items b Send g k p = absurd (holds p)
refused_items b Period g k p = absurd (holds p)

step_items : (f : Format) (b : BallBox) (e : Event) (g : UnderWay Message) → hosts_pass asks_or_tells e ≡ true → SetWith IsReply f b g → Reaches b e g (told_by b e g)
step_items f b e g t h = go (above_seven e) refl
  where
    go : (s : Bool) → above_seven e ≡ s → Reaches b e g (told_by b e g)
    go true p = rw (refused_told b e g p) (refused_items b e g h.good p)
    go false p = rw (told_is b e g false p h.awake) (awake_items b e g h.good h.awake h.carries p t)

-- over every list of events, by any answers that the promise permits
pub run_items : (f : Format) (events : List Event) (b : BallBox) (g : UnderWay Message) (answers : List Stepped) → all_hosts asks_or_tells events ≡ true → SetWith IsReply f b g → RunPromise b events answers
    → part_items g ++ items_given events answers ≡ line_items (passages_of b g events) ++ part_items (going_after b g events)
unfolding all_hosts RunPromise passages_over going_over
run_items f [] b g [] t h p = append-nil (part_items g)
run_items f [] b g (a ∷ answers) t h p = absurd p
run_items f (e ∷ events) b g [] t h p = absurd p
run_items f (e ∷ events) b g (a ∷ answers) t h p =
    let pass = left (hosts_pass asks_or_tells e) (all_hosts asks_or_tells events) t in
    let next : a.next ≡ next_box b e = ap (λ (x : Stepped). x.next) p.0 in
    let ws : sent_words a ≡ (step_of b e).words = ap (λ (x : box.Step). x.words) (says b e a p.0) in
    let later = run_items f events (next_box b e) (told_by b e g).going answers (right (hosts_pass asks_or_tells e) (all_hosts asks_or_tells events) t) (hosted_step with_replies f b e g pass h).1 (rw next at p.1) in
    let rest = items_given events answers in
    rw (ws, items_append (told_by b e g).passages (passages_of (next_box b e) (told_by b e g).going events))
    (ap (λ (is : List Item). part_items g ++ is) (sym (append_assoc (as_items (step_of b e).words) (telling_of e) rest))
    ∙ sym (append_assoc (part_items g) (as_items (step_of b e).words ++ telling_of e) rest)
    ∙ ap (λ (is : List Item). is ++ rest) (step_items f b e g pass h)
    ∙ append_assoc (line_items (told_by b e g).passages) (part_items (told_by b e g).going) rest
    ∙ ap (λ (is : List Item). line_items (told_by b e g).passages ++ is) later
    ∙ sym (append_assoc (line_items (told_by b e g).passages) (line_items (passages_of (next_box b e) (told_by b e g).going events)) (part_items (going_after (next_box b e) (told_by b e g).going events))))
