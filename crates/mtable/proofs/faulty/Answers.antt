-- The row is short, and so are the words.
use native.Mathlib.Omega.{arith}
use mathlib.Core.Path.{refl, ◌∙◌, ap}
use mathlib.Core.List.{[], ◌∷◌}
use mathlib.Core.Bool.{true, false}
use Rattle.mtable.proofs.Turns.{not_ok}
use mir.Syntax.{w64}
use mir.Facts.{to_z_pos}
use Rattle.text.specs.Growth.{grown_by}
use Rattle.mtable.specs.Table.{last_row, of_fault, fault_words}
use Rattle.mtable.proofs.Faults.{row_few, row_shows, words_few, words_shows, unshown, then_told}
use Rattle.mtable.proofs.faulty.Goals as goal

pub show-requires : goal.show-requires
show-requires c =
    let line = c.args.line in
    row_few line c.requires.1 (omega arith) _ (to_z_pos w64 {n = line} (omega arith)) c.words.result c.decimal.result c.empty.result c.with-last.result
    (c.words.ensures ∙ ap (λ (t : _). grown_by t (102 ∷ 97 ∷ 117 ∷ 108 ∷ 116 ∷ 44 ∷ [])) c.none-none.ensures) c.decimal.ensures c.empty.ensures c.with-last.ensures

pub returns-in_err-show : goal.returns-in_err-show
returns-in_err-show c =
    let line = c.args.line in
    let shows = row_shows line c.requires.1 (omega arith) _ (to_z_pos w64 {n = line} (omega arith)) c.words.result c.decimal.result c.empty.result c.with-last.result
    (c.words.ensures ∙ ap (λ (t : _). grown_by t (102 ∷ 97 ∷ 117 ∷ 108 ∷ 116 ∷ 44 ∷ [])) c.none-none.ensures) c.decimal.ensures c.empty.ensures c.with-last.ensures in
    let show = c.show in
    rw (not_ok c.from_residual.result c.from_residual.ensures.0)
    (unshown c.args.system.now.turn show.new.system.turn false (last_row line) (fault_words line) _ c.requires.0 shows c.in_err-show.ensures refl)

pub tell-requires : goal.tell-requires
tell-requires c =
    let line = c.args.line in
    words_few line c.requires.1 (omega arith) _ (to_z_pos w64 {n = line} (omega arith)) c.words-2.result c.decimal-2.result c.with.result
    (c.words-2.ensures ∙ ap (λ (t : _). grown_by t of_fault) c.none-none.ensures) c.decimal-2.ensures c.with.ensures

pub returns : goal.returns
returns c =
    let line = c.args.line in
    let is = to_z_pos w64 {n = line} (omega arith) in
    let shows = row_shows line c.requires.1 (omega arith) _ is c.words.result c.decimal.result c.empty.result c.with-last.result
    (c.words.ensures ∙ ap (λ (t : _). grown_by t (102 ∷ 97 ∷ 117 ∷ 108 ∷ 116 ∷ 44 ∷ [])) c.none-none.ensures) c.decimal.ensures c.empty.ensures c.with-last.ensures in
    let told = words_shows line c.requires.1 (omega arith) _ is c.words-2.result c.decimal-2.result c.with.result
    (c.words-2.ensures ∙ ap (λ (t : _). grown_by t of_fault) c.none-none.ensures) c.decimal-2.ensures c.with.ensures in
    let show = c.show in
    then_told c.args.system.now.turn show.new.system.turn true (last_row line) (fault_words line) _ c.requires.0 shows c.in_ok-show.ensures refl c.tell.new.system.turn _ _ told c.tell.ensures
