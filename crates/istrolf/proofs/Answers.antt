-- "Each public operation's promise determines one answer, and every number in the lent slice after it, refused or not".
use Prim.Native.Nat.{ℕ}
use mathlib.Core.Path.{◌≡◌, sym, ◌∙◌, ap}
use mathlib.Core.List.{List}
use lib.IntN.{ℤ}
use Rattle.wire.specs.Encoder as wire
use Rattle.wire.specs.declared.Report.{Report}
use Rattle.ballbox.specs.declared.BallBox.{BallBox}
use Rattle.ballbox.specs.declared.Event.{Event}
use Rattle.ballbox.specs.declared.Stepped.{Stepped}
use Rattle.replies.specs.declared.Asked.{Asked}
use Rattle.port.specs.declared.Port.{Port}
use Rattle.port.specs.declared.Words.{Words}
use Rattle.port.proofs.Answers as port
use Rattle.saves.specs.declared.Watch.{Watch}
use Rattle.saves.specs.declared.Told.{Told}
use Rattle.saves.specs.declared.Watched.{Watched}
use Rattle.yard.specs.declared.Yard.{Yard}
use Rattle.yard.specs.declared.NewYard.{NewYard}
use Rattle.yard.specs.declared.Judged.{Judged}
use Rattle.yard.specs.declared.Checked.{Checked}
use Rattle.istrolf.specs.Readers as readers
use Rattle.istrolf.specs.Listers as listers
use Rattle.istrolf.specs.Bridges as bridges
use Rattle.istrolf.specs.Told as told
use Rattle.readback.specs.declared.Readback.{Readback}
use Rattle.readback.specs.declared.Back.{Back}
use Rattle.readback.specs.declared.Rewritten.{Rewritten}
use Rattle.readback.proofs.Answers as readback
use Rattle.istrolf.specs.Promises.{FreshReaderPromise, ReaderStepPromise, ReadPromise, EncodePromise, FreshBoxPromise, BoxStepPromise, FreshListerPromise, FeedPromise, FinishPromise, FreshYardPromise, YardStepPromise, YardCheckPromise, FreshBridgePromise, ConvertPromise, PickPromise, SalvagePromise, FreshToldPromise, TellPromise, ToldStepPromise, ToldReadPromise, FreshReadbackPromise, ReadbackReadPromise, ReadbackFinishPromise, ReadbackRewritePromise, MadePuckPromise, PuckStepPromise, FreshPuckReaderPromise, PuckReaderStepPromise, PuckReadPromise, FreshPortPromise, ClearingPortPromise, PortBytePromise, PortBytesPromise, PortQuietPromise, PortLostPromise, FreshWatchPromise, KnowingWatchPromise, WatchHeardPromise, WatchOverPromise}
use Rattle.istrolf.specs.Version.{VersionPromise}
use Rattle.istrolf.specs.declared.PortWord.{PortWord}
use Rattle.istrolf.specs.declared.HeldReader.{HeldReader}
use Rattle.istrolf.specs.declared.FreshReader.{FreshReader}
use Rattle.istrolf.specs.declared.ReadWord.{ReadWord}
use Rattle.istrolf.specs.declared.ReadWords.{ReadWords}
use Rattle.istrolf.specs.declared.Encoding.{Encoding}
use Rattle.istrolf.specs.declared.HeldLister.{HeldLister}
use Rattle.istrolf.specs.declared.ListedBytes.{ListedBytes}
use Rattle.istrolf.specs.declared.HeldBridge.{HeldBridge}
use Rattle.istrolf.specs.declared.FreshBridge.{FreshBridge}
use Rattle.istrolf.specs.declared.ConvertedWords.{ConvertedWords}
use Rattle.istrolf.specs.declared.SalvagedBytes.{SalvagedBytes}
use Rattle.istrolf.specs.Salvages as salvages
use Rattle.salvage.specs.declared.Picked.{Picked}
use Rattle.salvage.proofs.Picks as below
use Rattle.istrolf.specs.declared.HeldTold.{HeldTold}
use Rattle.istrolf.specs.declared.FreshTold.{FreshTold}
use Rattle.istrolf.specs.declared.ToldCommand.{ToldCommand}
use Rattle.istrolf.specs.declared.HeardWord.{HeardWord}
use Rattle.istrolf.specs.declared.HeardWords.{HeardWords}
use Rattle.puck.specs.declared.Puck.{Puck}
use Rattle.puck.specs.declared.PuckStepped.{PuckStepped}
use Rattle.puckreader.specs.Line.{Long}
use Rattle.puckreader.specs.declared.PuckReader.{PuckReader}
use Rattle.istrolf.specs.declared.ReadPuckWord.{ReadPuckWord}
use Rattle.istrolf.specs.declared.ReadPuckWords.{ReadPuckWords}

listed_same : {a b : ListedBytes} {x y : List ℕ} → listers.whole a x ≡ listers.whole b y → (a ≡ b) × (x ≡ y)
listed_same e = (ap (λ (l : listers.Whole). l.listed) e, ap (λ (l : listers.Whole). l.out) e)

pub one_fresh_reader : (letter : ℕ) (a b : FreshReader) → FreshReaderPromise letter a → FreshReaderPromise letter b → a ≡ b
one_fresh_reader letter a b e f = e ∙ sym f

pub one_reader_step : (h : HeldReader) (w : ℕ) (a b : ReadWord) → ReaderStepPromise h w a → ReaderStepPromise h w b → a ≡ b
one_reader_step h w a b e f = e ∙ sym f

pub one_read : (h : HeldReader) (words : List ℕ) (out : List ℤ) (a b : ReadWords) (x y : List ℤ)
    → ReadPromise h words out a x → ReadPromise h words out b y → (a ≡ b) × (x ≡ y)
one_read h words out a b x y e f =
    (ap (λ (l : readers.Whole). l.reading) (e ∙ sym f), ap (λ (l : readers.Whole). l.out) (e ∙ sym f))

pub one_encoding : (letter : ℕ) (report : Report) (buffer : List ℕ) (a b : Encoding) (x y : List ℕ)
    → EncodePromise letter report buffer a x → EncodePromise letter report buffer b y → (a ≡ b) × (x ≡ y)
one_encoding letter report buffer a b x y e f =
    (λ i. record { refusal = ((e ∙ sym f) i).refusal; length = ((e ∙ sym f) i).told }, ap (λ (l : wire.Encoding). l.buffer) (e ∙ sym f))

pub one_fresh_box : (a b : BallBox) → FreshBoxPromise a → FreshBoxPromise b → a ≡ b
one_fresh_box a b e f = e ∙ sym f

pub one_box_step : (h : BallBox) (e : Event) (a b : Stepped) → BoxStepPromise h e a → BoxStepPromise h e b → a ≡ b
one_box_step h event a b e f = e ∙ sym f

pub one_fresh_lister : (a b : HeldLister) → FreshListerPromise a → FreshListerPromise b → a ≡ b
one_fresh_lister a b e f = e ∙ sym f

pub one_feed : (h : HeldLister) (input out : List ℕ) (a b : ListedBytes) (x y : List ℕ)
    → FeedPromise h input out a x → FeedPromise h input out b y → (a ≡ b) × (x ≡ y)
one_feed h input out a b x y e f = listed_same (e ∙ sym f)

pub one_finish : (h : HeldLister) (out : List ℕ) (a b : ListedBytes) (x y : List ℕ)
    → FinishPromise h out a x → FinishPromise h out b y → (a ≡ b) × (x ≡ y)
one_finish h out a b x y e f = listed_same (e ∙ sym f)

pub one_fresh_yard : (letter : ℕ) (a b : NewYard) → FreshYardPromise letter a → FreshYardPromise letter b → a ≡ b
one_fresh_yard letter a b e f = e ∙ sym f

pub one_yard_step : (y : Yard) (w : ℕ) (a b : Judged) → YardStepPromise y w a → YardStepPromise y w b → a ≡ b
one_yard_step y w a b e f = e ∙ sym f

pub one_yard_check : (letter : ℕ) (words : List ℕ) (a b : Checked) → YardCheckPromise letter words a → YardCheckPromise letter words b → a ≡ b
one_yard_check letter words a b e f = e ∙ sym f

pub one_fresh_bridge : (letter : ℕ) (a b : FreshBridge) → FreshBridgePromise letter a → FreshBridgePromise letter b → a ≡ b
one_fresh_bridge letter a b e f = e ∙ sym f

pub one_convert : (h : HeldBridge) (words out : List ℕ) (a b : ConvertedWords) (x y : List ℕ)
    → ConvertPromise h words out a x → ConvertPromise h words out b y → (a ≡ b) × (x ≡ y)
one_convert h words out a b x y e f = (ap (λ (l : bridges.Whole). l.told) (e ∙ sym f), ap (λ (l : bridges.Whole). l.out) (e ∙ sym f))

pub one_pick : (letter : ℕ) (words places : List ℕ) (a b : Picked) (x y : List ℕ)
    → PickPromise letter words places a x → PickPromise letter words places b y → (a ≡ b) × (x ≡ y)
one_pick letter words places a b x y e f = below.one_pick letter words places e f

pub one_salvage : (input out : List ℕ) (a b : SalvagedBytes) (x y : List ℕ)
    → SalvagePromise input out a x → SalvagePromise input out b y → (a ≡ b) × (x ≡ y)
one_salvage input out a b x y e f =
    (ap (λ (w : salvages.Whole). w.told) (e ∙ sym f), ap (λ (w : salvages.Whole). w.out) (e ∙ sym f))

pub one_fresh_told : (letter : ℕ) (a b : FreshTold) → FreshToldPromise letter a → FreshToldPromise letter b → a ≡ b
one_fresh_told letter a b e f = e ∙ sym f

pub one_tell : (h : HeldTold) (asked : Asked) (a b : ToldCommand) → TellPromise h asked a → TellPromise h asked b → a ≡ b
one_tell h asked a b e f = e ∙ sym f

pub one_told_step : (h : HeldTold) (w : ℕ) (a b : HeardWord) → ToldStepPromise h w a → ToldStepPromise h w b → a ≡ b
one_told_step h w a b e f = e ∙ sym f

pub one_told_read : (h : HeldTold) (words : List ℕ) (out : List ℤ) (a b : HeardWords) (x y : List ℤ)
    → ToldReadPromise h words out a x → ToldReadPromise h words out b y → (a ≡ b) × (x ≡ y)
one_told_read h words out a b x y e f =
    (ap (λ (l : told.Whole). l.line) (e ∙ sym f), ap (λ (l : told.Whole). l.out) (e ∙ sym f))

pub one_fresh_readback : (a b : Readback) → FreshReadbackPromise a → FreshReadbackPromise b → a ≡ b
one_fresh_readback a b = readback.one_fresh

pub one_readback_read : (r : Readback) (input : List ℕ) (out : List ℤ) (a b : Back) (x y : List ℤ)
    → ReadbackReadPromise r input out a x → ReadbackReadPromise r input out b y → (a ≡ b) × (x ≡ y)
one_readback_read r input out a b x y = readback.one_read r input out

pub one_readback_finish : (r : Readback) (left : ℕ) (a b : Back) → ReadbackFinishPromise r left a → ReadbackFinishPromise r left b → a ≡ b
one_readback_finish r left a b = readback.one_finish r left

pub one_readback_rewrite : (r : Readback) (input out : List ℕ) (a b : Rewritten) (x y : List ℕ)
    → ReadbackRewritePromise r input out a x → ReadbackRewritePromise r input out b y → (a ≡ b) × (x ≡ y)
one_readback_rewrite r input out a b x y = readback.one_rewrite r input out

pub one_made_puck : (buttons revision maker : ℕ) (a b : Puck) → MadePuckPromise buttons revision maker a → MadePuckPromise buttons revision maker b → a ≡ b
one_made_puck buttons revision maker a b e f = e ∙ sym f

pub one_puck_step : (h : Puck) (e : Event) (a b : PuckStepped) → PuckStepPromise h e a → PuckStepPromise h e b → a ≡ b
one_puck_step h event a b e f = e ∙ sym f

pub one_fresh_puck_reader : (a b : PuckReader) → FreshPuckReaderPromise a → FreshPuckReaderPromise b → a ≡ b
one_fresh_puck_reader a b e f = e ∙ sym f

pub one_puck_reader_step : (r : PuckReader) (w : ℕ) (a b : ReadPuckWord) → PuckReaderStepPromise r w a → PuckReaderStepPromise r w b → a ≡ b
one_puck_reader_step r w a b e f = e ∙ sym f

pub one_puck_read : (r : PuckReader) (words : List ℕ) (out : List ℤ) (a b : ReadPuckWords) (x y : List ℤ)
    → PuckReadPromise r words out a x → PuckReadPromise r words out b y → (a ≡ b) × (x ≡ y)
one_puck_read r words out a b x y e f =
    let q = e ∙ sym f in
    (λ i. (record { refusal = (q i).refusal; next = (q i).next; taken = (q i).taken; reports = (q i).counts.reports; dropped = (q i).counts.dropped }), ap (λ (l : Long). l.out) q)

pub one_fresh_port : (silence : ℕ) (a b : Port) → FreshPortPromise silence a → FreshPortPromise silence b → a ≡ b
one_fresh_port silence a b e f = e ∙ sym f

pub one_clearing_port : (silence : ℕ) (a b : Port) → ClearingPortPromise silence a → ClearingPortPromise silence b → a ≡ b
one_clearing_port silence a b e f = e ∙ sym f

pub one_port_byte : (p : Port) (byte : ℕ) (a b : PortWord) → PortBytePromise p byte a → PortBytePromise p byte b → a ≡ b
one_port_byte p byte a b e f = e ∙ sym f

pub one_port_bytes : (p : Port) (raw out : List ℕ) (a b : Words) (x y : List ℕ) → PortBytesPromise p raw out a x → PortBytesPromise p raw out b y
    → (a ≡ b) × (x ≡ y)
one_port_bytes = port.one_bytes

pub one_port_quiet : (p : Port) (wait : ℕ) (a b : PortWord) → PortQuietPromise p wait a → PortQuietPromise p wait b → a ≡ b
one_port_quiet p wait a b e f = e ∙ sym f

pub one_port_lost : (p : Port) (a b : PortWord) → PortLostPromise p a → PortLostPromise p b → a ≡ b
one_port_lost p a b e f = e ∙ sym f

pub one_fresh_watch : (a b : Watch) → FreshWatchPromise a → FreshWatchPromise b → a ≡ b
one_fresh_watch a b e f = e ∙ sym f

pub one_knowing_watch : (buttons : ℕ) (a b : Watch) → KnowingWatchPromise buttons a → KnowingWatchPromise buttons b → a ≡ b
one_knowing_watch buttons a b e f = e ∙ sym f

pub one_watch_heard : (w : Watch) (report : Report) (a b : Told) → WatchHeardPromise w report a → WatchHeardPromise w report b → a ≡ b
one_watch_heard w report a b e f = e ∙ sym f

pub one_watch_over : (w : Watch) (numbers : List ℤ) (a b : Watched) → WatchOverPromise w numbers a → WatchOverPromise w numbers b → a ≡ b
one_watch_over w numbers a b e f = e ∙ sym f

pub one_version : (a b : ℕ) → VersionPromise a → VersionPromise b → a ≡ b
one_version a b e f = e ∙ sym f
