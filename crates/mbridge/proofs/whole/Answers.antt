-- It begins at the first byte.
use Rattle.std.proofs.Common.{refl, arith, ◌≡◌, true, ◌∙◌, ap}
use Rattle.listing.specs.declared.Lister.{Lister}
use Rattle.bridge.specs.Good.{good}
use Rattle.bridge.specs.Promises.{NewBridge}
use Rattle.bridge.proofs.Goodness.{fresh_or}
use Rattle.mbridge.specs.declared.bridging.Bridging.{Bridging}
use Rattle.mbridge.proofs.Turns.{waits_good, starts, is_ready}
use Rattle.mbridge.proofs.whole.Goals as goal

pub invariant_of-bridging : goal.invariant_of-bridging
invariant_of-bridging c = record { sound = rw (fresh_or _ _ c.unwrap_or_default.ensures ∙ ap (λ (n : NewBridge). n.bridge) c.fresh-2.ensures) waits_good }

pub returns : goal.returns
returns c =
    let scanner = ap (λ (m : Lister). m.scanner) c.fresh.ensures in
    let bridge = fresh_or _ _ c.unwrap_or_default.ensures ∙ ap (λ (n : NewBridge). n.bridge) c.fresh-2.ensures in
    let sound : good c.unwrap_or_default.result ≡ true = rw bridge waits_good in
    let s : Bridging = record { scanner = c.fresh.result.scanner; bridge = c.unwrap_or_default.result; sound = sound } in
    c.run.ensures
    (record {
      named = refl;
      ready = record { sound = sound; within = (is_ready s scanner bridge).within };
      some = c.requires.1;
      fits = c.requires.2;
      stands = starts s scanner bridge c.args.system.now.turn c.requires.0;
    })
