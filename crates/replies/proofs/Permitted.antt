-- "Each public operation's promise determines one answer, and every number in the lent slice after it, refused or not".
use Rattle.std.proofs.Common.{Option, None, Some, Result}
use Prim.Native.Nat.{ℕ}
use mathlib.Core.Path.{◌≡◌, refl, sym, ◌∙◌, ap, ap₂}
use mathlib.Core.Bool.{Bool, cond}
use mathlib.Core.List.{List}
use lib.ListN.{get_or}
use lib.Dec.{eqb}
use lib.IntN.{ℤ}
use Rattle.wire.specs.declared.refusal.Refusal.{Refusal}
use Rattle.wire.proofs.Numbered.{result_apart, if_apart}
use Rattle.reader.proofs.Permitted.{by_numbers}
use Rattle.replies.specs.Replying.{came}
use Rattle.replies.specs.Line.{HeardLine, Long, counts, whole, heard_line, heard_line_in}
use Rattle.replies.specs.Promises.{Telling, NewToldReader, Step, Left, FreshPromise, GoodPromise, TellPromise, StepPromise, ReadPromise, reply_numbers, left, step_of, read_of, new_in, telling_in}
use Rattle.replies.specs.declared.Asked.{Asked}
use Rattle.replies.specs.declared.Reply.{Reply}
use Rattle.replies.specs.declared.Reply.TheVariants as reply
use Rattle.replies.specs.declared.ToldReader.{ToldReader}
use Rattle.replies.specs.Rules.{Heard, heard_in}
use Rattle.replies.specs.declared.Told as tellings
use Rattle.replies.specs.declared.ToldStep as steps
use Rattle.replies.specs.declared.HeardLine as lines

-- what became of a reply is told by its numbers
abbrev reply_of : List ℕ → Option Reply
reply_of l =
    let n = get_or l 0 0 in
    cond (eqb n 0) None
    (cond (eqb n 1) (Some reply.Ack)
    (cond (eqb n 2) (Some (reply.Format (get_or l 1 0)))
    (cond (eqb n 3) (Some (reply.Letters (get_or l 1 0) (get_or l 2 0)))
    (cond (eqb n 4) (Some (reply.Buttons (get_or l 1 0)))
    (Some (reply.Broken (came (get_or l 1 0) (get_or l 2 0) (get_or l 3 0))))))))

reply_is : (r : Option Reply) → reply_of (reply_numbers r) ≡ r
reply_is None = refl
reply_is (Some reply.Ack) = refl
reply_is (Some (reply.Format f)) = refl
reply_is (Some (reply.Letters f m)) = refl
reply_is (Some (reply.Buttons n)) = refl
reply_is (Some (reply.Broken c)) = refl

by_reply : (p q : Option Reply) → reply_numbers p ≡ reply_numbers q → p ≡ q
by_reply p q e = sym (reply_is p) ∙ ap reply_of e ∙ reply_is q

-- so that what the promises permit is their definitions' answer
same_heard : {p q : Heard} → p.refusal ≡ q.refusal → p.next ≡ q.next → p.reply ≡ q.reply → p.answer ≡ q.answer → p ≡ q
same_heard n s r a = λ i. record { refusal = n i; next = s i; reply = r i; answer = a i }

pub step_is : (s : ToldReader) (w : ℕ) (h : Heard) → StepPromise s w h → h ≡ step_of s w
step_is s w h e =
    same_heard (ap (λ (o : Step). o.refusal) e) (ap (λ (o : Step). o.next) e) (by_reply h.reply (step_of s w).reply (ap (λ (o : Step). o.reply) e))
    (by_numbers h.answer (step_of s w).answer (ap (λ (o : Step). o.numbers) e))

left_is : (p q : Long) → left p ≡ left q → p ≡ q
left_is p q e =
    let r = by_reply p.counts.reply q.counts.reply (ap (λ (l : Left). l.reply) e) in
    λ i. record {
      refusal = (e i).refusal;
      next = (e i).next;
      taken = (e i).taken;
      counts = counts (e i).reports (e i).dropped (r i);
      out = (e i).out;
    }

pub read_is : (s : ToldReader) (words : List ℕ) (before : List ℤ) (a : HeardLine) (after : List ℤ) → ReadPromise s words before a after → whole a after ≡ read_of s words before
read_is s words before a after e = left_is (whole a after) (read_of s words before) e

-- one answer
pub one_fresh : (letter : ℕ) (a b : NewToldReader) → FreshPromise letter a → FreshPromise letter b → a ≡ b
one_fresh letter a b e f = e ∙ sym f

pub one_good : (s : ToldReader) (a b : Bool) → GoodPromise s a → GoodPromise s b → a ≡ b
one_good s a b e f = e ∙ sym f

pub one_tell : (s : ToldReader) (asked : Asked) (a b : Telling) → TellPromise s asked a → TellPromise s asked b → a ≡ b
one_tell s asked a b e f = e ∙ sym f

pub one_step : (s : ToldReader) (w : ℕ) (a b : Heard) → StepPromise s w a → StepPromise s w b → a ≡ b
one_step s w a b e f = step_is s w a e ∙ sym (step_is s w b f)

pub one_read : (s : ToldReader) (words : List ℕ) (out : List ℤ) (a b : HeardLine) (x y : List ℤ) → ReadPromise s words out a x → ReadPromise s words out b y → (a ≡ b) × (x ≡ y)
one_read s words out a b x y e f =
    let same = read_is s words out a x e ∙ sym (read_is s words out b y f) in
    (ap heard_line same, ap (λ (l : Long). l.out) same)

-- What `ToldReader::fresh`, `tell`, `step` and `read` give is told apart by what their promises read of it: so that is one, too.
pub new_apart : (a b : Result ToldReader Refusal) → new_in a ≡ new_in b → a ≡ b
new_apart = result_apart new_in (λ n. n.refusal) (λ n. n.reader) (λ a. refl) (λ r. refl) (λ a. refl)

pub telling_apart : (s : ToldReader) (a b : Result tellings.Told Refusal) → telling_in s a ≡ telling_in s b → a ≡ b
telling_apart s = result_apart (telling_in s) (λ t. t.refusal) (λ t. record { next = t.next; discarded = t.discarded }) (λ a. refl) (λ r. refl) (λ a. refl)

pub heard_apart : (s : ToldReader) (a b : Result steps.ToldStep Refusal) → heard_in s a ≡ heard_in s b → a ≡ b
heard_apart s = result_apart (heard_in s) (λ h. h.refusal) (λ h. record { next = h.next; reply = h.reply; answer = h.answer }) (λ a. refl) (λ r. refl) (λ a. refl)

pub heard_line_apart : (a b : lines.HeardLine) → heard_line_in a ≡ heard_line_in b → a ≡ b
heard_line_apart a b e =
    let given : HeardLine → Option Refusal → lines.HeardLine = λ t why.
    record { refusal = why; next = t.next; taken = t.taken; reports = t.reports; dropped = t.dropped; reply = t.reply } in
    ap₂ given e (if_apart a.refusal b.refusal (ap (λ (t : HeardLine). t.refusal) e))
