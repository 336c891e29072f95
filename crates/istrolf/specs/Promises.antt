-- What each function promises to C, by what the library's own functions promise: 6 for what stands for no state, and then the answer below, packed.
use Rattle.std.specs.Prelude.{ℕ, ◌≡◌, cond, List, ℤ}
use Rattle.wire.specs.Encoder as wire
use Rattle.wire.specs.declared.Report.{Report}
use Rattle.reader.specs.Promises as reader
use Rattle.port.specs.Marks.{byte_of, quiet_of, lost_of}
use Rattle.port.specs.Promises as port
use Rattle.port.specs.declared.Port.{Port}
use Rattle.port.specs.declared.Words.{Words}
use Rattle.saves.specs.Promises as saves
use Rattle.saves.specs.declared.Watch.{Watch}
use Rattle.saves.specs.declared.Told.{Told}
use Rattle.saves.specs.declared.Watched.{Watched}
use Rattle.ballbox.specs.Promises as ballbox
use Rattle.ballbox.specs.declared.BallBox.{BallBox}
use Rattle.ballbox.specs.declared.Event.{Event}
use Rattle.ballbox.specs.declared.Stepped.{Stepped}
use Rattle.listing.specs.Feeding as feeding
use Rattle.listing.specs.Promises as listing
use Rattle.yard.specs.Promises as yard
use Rattle.yard.specs.declared.Yard.{Yard}
use Rattle.yard.specs.declared.NewYard.{NewYard}
use Rattle.yard.specs.declared.Judged.{Judged}
use Rattle.yard.specs.declared.Checked.{Checked}
use Rattle.bridge.specs.Promises as bridge
use Rattle.salvage.specs.Promises as salvage
use Rattle.salvage.specs.declared.Picked.{Picked}
use Rattle.salvaged.specs.Promises as salvaged
use Rattle.replies.specs.Promises as replies
use Rattle.replies.specs.declared.Asked.{Asked}
use Rattle.puck.specs.Promises as puck
use Rattle.puck.specs.declared.Puck.{Puck}
use Rattle.puck.specs.declared.PuckStepped.{PuckStepped}
use Rattle.puckreader.specs.State as puckreaders
use Rattle.puckreader.specs.Promises as puckreader
use Rattle.puckreader.specs.declared.PuckReader.{PuckReader}
use Rattle.readback.specs.Promises as readback
use Rattle.readback.specs.declared.Readback.{Readback}
use Rattle.readback.specs.declared.Back.{Back}
use Rattle.readback.specs.declared.Rewritten.{Rewritten}
use Rattle.istrolf.specs.Ports as ports
use Rattle.istrolf.specs.Readers as readers
use Rattle.istrolf.specs.Listers as listers
use Rattle.istrolf.specs.Bridges as bridges
use Rattle.istrolf.specs.Salvages as salvages
use Rattle.istrolf.specs.Told as told
use Rattle.istrolf.specs.Pucks as pucks
use Rattle.istrolf.specs.declared.PortWord.{PortWord}
use Rattle.istrolf.specs.declared.HeldReader.{HeldReader}
use Rattle.istrolf.specs.declared.FreshReader.{FreshReader}
use Rattle.istrolf.specs.declared.ReadWord.{ReadWord}
use Rattle.istrolf.specs.declared.ReadWords.{ReadWords}
use Rattle.istrolf.specs.declared.Encoding.{Encoding}
use Rattle.istrolf.specs.declared.HeldLister.{HeldLister}
use Rattle.istrolf.specs.declared.ListedBytes.{ListedBytes}
use Rattle.istrolf.specs.declared.HeldBridge.{HeldBridge}
use Rattle.istrolf.specs.declared.FreshBridge.{FreshBridge}
use Rattle.istrolf.specs.declared.ConvertedWords.{ConvertedWords}
use Rattle.istrolf.specs.declared.SalvagedBytes.{SalvagedBytes}
use Rattle.istrolf.specs.declared.HeldTold.{HeldTold}
use Rattle.istrolf.specs.declared.FreshTold.{FreshTold}
use Rattle.istrolf.specs.declared.ToldCommand.{ToldCommand}
use Rattle.istrolf.specs.declared.HeardWord.{HeardWord}
use Rattle.istrolf.specs.declared.HeardWords.{HeardWords}
use Rattle.istrolf.specs.declared.ReadPuckWord.{ReadPuckWord}
use Rattle.istrolf.specs.declared.ReadPuckWords.{ReadPuckWords}

-- `istrolf_reader_fresh(letter)`
abbrev pub FreshReaderPromise : ℕ → FreshReader → Type 0
FreshReaderPromise letter answer = answer ≡ readers.packed_fresh (reader.fresh_of letter)

-- `istrolf_reader_step(reader, word)`
unfoldable pub reader_step_of : HeldReader → ℕ → ReadWord
reader_step_of h w = cond (readers.stands h) (readers.packed_read (reader.step_of (readers.unpacked h) w)) (readers.refused_read h)

abbrev pub ReaderStepPromise : HeldReader → ℕ → ReadWord → Type 0
ReaderStepPromise h w answer = answer ≡ reader_step_of h w

-- `istrolf_reader_read(reader, words, out)`
unfoldable pub read_of : HeldReader → List ℕ → List ℤ → readers.Whole
read_of h words out =
    cond (readers.stands h) (readers.packed_long (reader.read_of (readers.unpacked h) words out)) (readers.whole (readers.refused_reading h) out)

abbrev pub ReadPromise : HeldReader → List ℕ → List ℤ → ReadWords → List ℤ → Type 0
ReadPromise h words before answer after = readers.whole answer after ≡ read_of h words before

-- `istrolf_encode(letter, report, buffer)`
abbrev pub EncodePromise : ℕ → Report → List ℕ → Encoding → List ℕ → Type 0
EncodePromise letter report before answer after =
    record { refusal = answer.refusal; told = answer.length; buffer = after } ≡ wire.encode_of letter report before

-- `istrolf_box_fresh()`
abbrev pub FreshBoxPromise : BallBox → Type 0
FreshBoxPromise answer = ballbox.FreshPromise answer

-- `istrolf_box_motion`, `_buttons`, `_host`, `_latch`, `_send` and `_period`, each with its event
abbrev pub BoxStepPromise : BallBox → Event → Stepped → Type 0
BoxStepPromise b e answer = ballbox.StepPromise b e answer

-- `istrolf_lister_fresh()`
abbrev pub FreshListerPromise : HeldLister → Type 0
FreshListerPromise answer = answer ≡ listers.packed feeding.fresh

-- `istrolf_lister_feed(lister, input, out)`
unfoldable pub feed_of : HeldLister → List ℕ → List ℕ → listers.Whole
feed_of h input out =
    cond (listers.stands h) (listers.packed_whole (listing.feed_of (listers.unpacked h) input out)) (listers.whole (listers.refused_listed h) out)

abbrev pub FeedPromise : HeldLister → List ℕ → List ℕ → ListedBytes → List ℕ → Type 0
FeedPromise h input before answer after = listers.whole answer after ≡ feed_of h input before

-- `istrolf_lister_finish(lister, out)`
unfoldable pub finish_of : HeldLister → List ℕ → listers.Whole
finish_of h out =
    cond (listers.stands h) (listers.packed_whole (listing.finish_of (listers.unpacked h) out)) (listers.whole (listers.refused_listed h) out)

abbrev pub FinishPromise : HeldLister → List ℕ → ListedBytes → List ℕ → Type 0
FinishPromise h before answer after = listers.whole answer after ≡ finish_of h before

-- `istrolf_yard_fresh(letter)`
abbrev pub FreshYardPromise : ℕ → NewYard → Type 0
FreshYardPromise letter answer = yard.FreshPromise letter answer

-- `istrolf_yard_step(yard, word)`
abbrev pub YardStepPromise : Yard → ℕ → Judged → Type 0
YardStepPromise y w answer = yard.StepPromise y w answer

-- `istrolf_yard_check(letter, words)`
abbrev pub YardCheckPromise : ℕ → List ℕ → Checked → Type 0
YardCheckPromise letter words answer = yard.CheckPromise letter words answer

-- `istrolf_bridge_fresh(letter)`
abbrev pub FreshBridgePromise : ℕ → FreshBridge → Type 0
FreshBridgePromise letter answer = answer ≡ bridges.packed_fresh (bridge.fresh_of letter)

-- `istrolf_bridge_convert(bridge, words, out)`
unfoldable pub convert_of : HeldBridge → List ℕ → List ℕ → bridges.Whole
convert_of h words out =
    cond (bridges.stands h) (bridges.packed_long (bridge.convert_of (bridges.unpacked h) words out)) (bridges.whole (bridges.refused_converted h) out)

abbrev pub ConvertPromise : HeldBridge → List ℕ → List ℕ → ConvertedWords → List ℕ → Type 0
ConvertPromise h words before answer after = bridges.whole answer after ≡ convert_of h words before

-- `istrolf_salvage_pick(letter, words, places)`
abbrev pub PickPromise : ℕ → List ℕ → List ℕ → Picked → List ℕ → Type 0
PickPromise letter words before answer after = salvage.PickPromise letter words before answer after

-- `istrolf_salvage_list(input, out)`
unfoldable pub salvage_of : List ℕ → List ℕ → salvages.Whole
salvage_of input out = salvages.packed_whole (salvaged.list_of input out)

abbrev pub SalvagePromise : List ℕ → List ℕ → SalvagedBytes → List ℕ → Type 0
SalvagePromise input before answer after = salvages.whole answer after ≡ salvage_of input before

-- `istrolf_told_fresh(letter)`
abbrev pub FreshToldPromise : ℕ → FreshTold → Type 0
FreshToldPromise letter answer = answer ≡ told.packed_fresh (replies.fresh_of letter)

-- `istrolf_told_command(told, byte)` and `istrolf_told_waking(told)`, each with what was asked
unfoldable pub tell_of : HeldTold → Asked → ToldCommand
tell_of h asked = cond (told.stands h) (told.packed_telling (replies.tell_of (told.unpacked h) asked)) (told.refused_telling h)

abbrev pub TellPromise : HeldTold → Asked → ToldCommand → Type 0
TellPromise h asked answer = answer ≡ tell_of h asked

-- `istrolf_told_step(told, word)`
unfoldable pub told_step_of : HeldTold → ℕ → HeardWord
told_step_of h w = cond (told.stands h) (told.packed_heard (replies.step_of (told.unpacked h) w)) (told.refused_heard h)

abbrev pub ToldStepPromise : HeldTold → ℕ → HeardWord → Type 0
ToldStepPromise h w answer = answer ≡ told_step_of h w

-- `istrolf_told_read(told, words, out)`
unfoldable pub told_read_of : HeldTold → List ℕ → List ℤ → told.Whole
told_read_of h words out = cond (told.stands h) (told.packed_long (replies.read_of (told.unpacked h) words out)) (told.whole (told.refused_line h) out)

abbrev pub ToldReadPromise : HeldTold → List ℕ → List ℤ → HeardWords → List ℤ → Type 0
ToldReadPromise h words before answer after = told.whole answer after ≡ told_read_of h words before

-- `istrolf_puck_made(buttons, revision, maker)`
abbrev pub MadePuckPromise : ℕ → ℕ → ℕ → Puck → Type 0
MadePuckPromise buttons revision maker answer = puck.MadePromise buttons revision maker answer

-- `istrolf_puck_motion`, `_buttons`, `_host`, `_latch`, `_send` and `_period`, each with its event
abbrev pub PuckStepPromise : Puck → Event → PuckStepped → Type 0
PuckStepPromise p e answer = puck.StepPromise p e answer

-- `istrolf_puck_reader_fresh()`
abbrev pub FreshPuckReaderPromise : PuckReader → Type 0
FreshPuckReaderPromise answer = answer ≡ puckreaders.fresh

-- `istrolf_puck_reader_step(reader, word)`
abbrev pub PuckReaderStepPromise : PuckReader → ℕ → ReadPuckWord → Type 0
PuckReaderStepPromise r w answer = answer ≡ pucks.packed_read (puckreader.step_of r w)

-- `istrolf_puck_reader_read(reader, words, out)`
abbrev pub PuckReadPromise : PuckReader → List ℕ → List ℤ → ReadPuckWords → List ℤ → Type 0
PuckReadPromise r words before answer after = pucks.whole answer after ≡ puckreader.read_of r words before

-- `istrolf_readback_fresh()`, `istrolf_readback_read(reader, input, out)`, `istrolf_readback_finish(reader, left)` and
-- `istrolf_readback_rewrite(reader, input, out)`: the reader of listings and its answers as they are below
abbrev pub FreshReadbackPromise : Readback → Type 0
FreshReadbackPromise = readback.FreshPromise

abbrev pub ReadbackReadPromise : Readback → List ℕ → List ℤ → Back → List ℤ → Type 0
ReadbackReadPromise = readback.ReadPromise

abbrev pub ReadbackFinishPromise : Readback → ℕ → Back → Type 0
ReadbackFinishPromise = readback.FinishPromise

abbrev pub ReadbackRewritePromise : Readback → List ℕ → List ℕ → Rewritten → List ℕ → Type 0
ReadbackRewritePromise = readback.RewritePromise

-- `istrolf_port_fresh(silence)`
abbrev pub FreshPortPromise : ℕ → Port → Type 0
FreshPortPromise silence answer = port.FreshPromise silence answer

-- `istrolf_port_clearing(silence)`
abbrev pub ClearingPortPromise : ℕ → Port → Type 0
ClearingPortPromise silence answer = port.ClearingPromise silence answer

-- `istrolf_port_byte(port, byte)`
abbrev pub PortBytePromise : Port → ℕ → PortWord → Type 0
PortBytePromise p b answer = answer ≡ ports.packed (byte_of p b)

-- `istrolf_port_bytes(port, raw, out)`
abbrev pub PortBytesPromise : Port → List ℕ → List ℕ → Words → List ℕ → Type 0
PortBytesPromise p raw before answer after = port.BytesPromise p raw before answer after

-- `istrolf_port_quiet(port, wait)`
abbrev pub PortQuietPromise : Port → ℕ → PortWord → Type 0
PortQuietPromise p wait answer = answer ≡ ports.packed (quiet_of p wait)

-- `istrolf_port_lost(port)`
abbrev pub PortLostPromise : Port → PortWord → Type 0
PortLostPromise p answer = answer ≡ ports.packed (lost_of p)

-- `istrolf_watch_fresh()`
abbrev pub FreshWatchPromise : Watch → Type 0
FreshWatchPromise answer = saves.FreshPromise answer

-- `istrolf_watch_knowing(buttons)`
abbrev pub KnowingWatchPromise : ℕ → Watch → Type 0
KnowingWatchPromise buttons answer = saves.KnowingPromise buttons answer

-- `istrolf_watch_heard(watch, report)`
abbrev pub WatchHeardPromise : Watch → Report → Told → Type 0
WatchHeardPromise w report answer = saves.HeardPromise w report answer

-- `istrolf_watch_over(watch, numbers)`
abbrev pub WatchOverPromise : Watch → List ℤ → Watched → Type 0
WatchOverPromise w numbers answer = saves.OverPromise w numbers answer
