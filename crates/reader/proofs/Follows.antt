-- A reader that follows a line goes on to follow it, and hands out finished reports; silences may be left out.
use Prim.Native.Nat.{ℕ}
use mathlib.Core.Path.{◌≡◌, sym, ◌∙◌, ap}
use mathlib.Core.List.{List, [], ◌∷◌, ◌++◌, append_assoc}
use lib.ListN.{length, drop}
use lib.Seq.{drop-append_seam}
use Rattle.frames.specs.Passages.{Passage, silent, finished, broken, UnderWay, Unbroken, Sub, passage_words, part_words}
use Rattle.frames.proofs.Sub.{sub_all, sub_none, sub_append}
use Rattle.frames.specs.Damage.{Fewer, Quieter}
use Rattle.frames.proofs.Passages.{finished_append, passages_append, sound_append, sound_left, sound_right}
use Rattle.frames.proofs.Fewer.{left_of, quieter_unbroken, quieter_finished, quieter_sound}
use Rattle.wire.specs.Messages.{Message, message_bytes, HeldBy, SoundIn, SoundEnd, finished_reports, carried_in}
use Rattle.wire.specs.declared.Report.{Report}
use Rattle.wire.specs.declared.Format.{Format}
use Rattle.reader.specs.DamagedLines.{HandsOutBy}
use Rattle.reader.specs.Follows.{Follows, ready_marked, ready_unbroken, fresh_marked, fresh_since}
use Rattle.reader.specs.declared.Reader.{Reader}
use Rattle.reader.proofs.Framed.{frame_of, laws}
use Rattle.reader.proofs.Lines.{framed_line, framed_going}
use Rattle.reader.proofs.Followed as followed

-- A reader that follows the line goes on to do so, where nothing is broken off.
pub unbroken_then : (a b : List (Passage Message)) → Unbroken a → Unbroken b → Unbroken (a ++ b)
unbroken_then [] b u v = v
unbroken_then (silent ∷ a) b u v = unbroken_then a b u v
unbroken_then (finished m ∷ a) b u v = unbroken_then a b u v
unbroken_then (broken n m ∷ a) b u v = absurd u

pub follows_on : (f : Format) (early later : List (Passage Message)) (going : UnderWay Message) (r : Reader) (before : List Report)
    → SoundIn f (early ++ later) → SoundEnd f going → Follows f early r before → Unbroken later
    → HandsOutBy r (passage_words message_bytes (early ++ later) ++ part_words message_bytes going) (before ++ finished_reports f later)
follows_on f early later going r before s e (ready_marked m) u =
    rw (finished_append (carried_in f) early later) at (followed.followed_marked f (early ++ later) going s e m)
follows_on f early later going r before s e (ready_unbroken v) u =
    rw (finished_append (carried_in f) early later) at (followed.followed_unbroken f (early ++ later) going s e (unbroken_then early later v u))
follows_on f early later going r before s e (fresh_marked a fresh m) u =
    rw (finished_append (carried_in f) early later) at (followed.fresh_followed_marked f (early ++ later) going s e m a fresh)
follows_on f early later going r before s e (fresh_since a front rest fresh m is paused v) u =
    rw (finished_append (carried_in f) rest later) at
    (followed.fresh_followed f (early ++ later) going s e front (rest ++ later)
    (ap (λ (l : List (Passage Message)). l ++ later) is ∙ append_assoc front (silent ∷ rest) later) m paused (unbroken_then rest later v u) a fresh)

-- What stands behind the passages `early` on a line, as words.
rest_of : (early later : List (Passage Message)) (going : UnderWay Message) (rest : List ℕ)
    → passage_words message_bytes (early ++ later) ++ part_words message_bytes going ≡ passage_words message_bytes early ++ rest
    → passage_words message_bytes later ++ part_words message_bytes going ≡ rest
rest_of early later going rest is =
    let w = passage_words message_bytes early in
    let v = passage_words message_bytes later ++ part_words message_bytes going in
    let split : passage_words message_bytes (early ++ later) ++ part_words message_bytes going ≡ w ++ v = rw (passages_append message_bytes, append_assoc) in
    sym (drop-append_seam w v) ∙ (ap (drop (length w)) (sym split ∙ is) ∙ drop-append_seam w rest)

-- Silences may be left out of the line: of the passages `early`, as which the reader has heard `heard`, and of the words
-- behind them. It hands out the same reports as if all had been told.
pub as_if_told : (f : Format) (early later : List (Passage Message)) (going : UnderWay Message) → SoundIn f (early ++ later) → SoundEnd f going
    → Unbroken later
    → {heard : List (Passage Message)} → Quieter heard early
    → {r : Reader} {before : List Report} → Follows f heard r before
    → (rest : List ℕ) → passage_words message_bytes (early ++ later) ++ part_words message_bytes going ≡ passage_words message_bytes early ++ rest
    → {late : List ℕ} → Fewer late rest
    → HandsOutBy r (passage_words message_bytes heard ++ late) (before ++ finished_reports f later)
as_if_told f early later going s e u {heard} quieter {r} {before} follows rest is {late} few =
    let behind = sound_right message_bytes (HeldBy f) early later s in
    let told : Fewer late (passage_words message_bytes later ++ part_words message_bytes going) = rw (rest_of early later going rest is) few in
    let l = left_of (frame_of f) (laws f) message_bytes going (framed_going f going e) later (framed_line f later behind) told in
    let ahead = quieter_sound message_bytes (HeldBy f) quieter (sound_left message_bytes (HeldBy f) early later s) in
    let sound = sound_append message_bytes (HeldBy f) heard l.quiet ahead (quieter_sound message_bytes (HeldBy f) l.quieter behind) in
    let same = ap (λ (x : List Report). before ++ x) (quieter_finished (carried_in f) l.quieter) in
    let words : passage_words message_bytes (heard ++ l.quiet) ++ part_words message_bytes going ≡ passage_words message_bytes heard ++ late =
    ap (λ (x : List ℕ). x ++ part_words message_bytes going) (passages_append message_bytes heard l.quiet)
    ∙ (append_assoc (passage_words message_bytes heard) (passage_words message_bytes l.quiet) (part_words message_bytes going)
    ∙ ap (λ (x : List ℕ). passage_words message_bytes heard ++ x) (sym l.is)) in
    rw (words, same) at (follows_on f heard l.quiet going r before sound e follows (quieter_unbroken l.quieter u))

-- a reader that follows the line hands out the finished reports, or the last of them
pub followed_some : {f : Format} {passages : List (Passage Message)} {r : Reader} {found : List Report} → Follows f passages r found → Sub found (finished_reports f passages)
followed_some {f} {passages} (ready_marked m) = sub_all (finished_reports f passages)
followed_some {f} {passages} (ready_unbroken u) = sub_all (finished_reports f passages)
followed_some {f} {passages} (fresh_marked a p m) = sub_all (finished_reports f passages)
followed_some {f} {passages} (fresh_since a front rest p m is n u) =
    rw (is, finished_append (carried_in f) front (silent ∷ rest)) (sub_append (sub_none (finished_reports f front)) (sub_all (finished_reports f rest)))

-- and the front of what is unbroken is
pub front_unbroken : (a b : List (Passage Message)) → Unbroken (a ++ b) → Unbroken a
front_unbroken [] b u = tt
front_unbroken (silent ∷ a) b u = front_unbroken a b u
front_unbroken (finished m ∷ a) b u = front_unbroken a b u
front_unbroken (broken n m ∷ a) b u = absurd u
