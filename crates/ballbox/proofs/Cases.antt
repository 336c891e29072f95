-- Latching, sending and breaking off, case by case.
use Prim.Native.Nat.{ℕ}
use mathlib.Core.Path.{◌≡◌, ap, ◌∙◌}
use mathlib.Core.Bool.{Bool, true, false, not, cond, ◌&&◌}
use mathlib.Core.List.{[], ◌∷◌}
use Rattle.frames.specs.Words.{break, silence}
use Rattle.ballbox.specs.Box.{nothing, with_going, with_memory}
use Rattle.ballbox.specs.Presses.{hidden}
use Rattle.ballbox.specs.Latching.{latched, second_latched}
use Rattle.ballbox.specs.Commands.{command_of, obeyed}
use Rattle.ballbox.specs.Events.{gives, quietly, bytes_left, wanted, latching, second_now, with_byte_ready, next_byte, sending, dropped, on_host}
use Rattle.ballbox.specs.declared.BallBox.{BallBox}

module _ (b : BallBox) where
  -- bytes are left, or a report is wanted, or none is
  pub latching_busy : bytes_left b ≡ true → latching b ≡ b
  unfolding latching
  latching_busy l = ap (λ (t : Bool). cond (not t && wanted b) (latched b) b) l

  pub latching_wanted : bytes_left b ≡ false → wanted b ≡ true → latching b ≡ latched b
  unfolding latching
  latching_wanted l w = ap (λ (t : Bool). cond (not t && wanted b) (latched b) b) l ∙ ap (λ (t : Bool). cond t (latched b) b) w

  pub latching_idle : bytes_left b ≡ false → wanted b ≡ false → latching b ≡ b
  unfolding latching
  latching_idle l w = ap (λ (t : Bool). cond (not t && wanted b) (latched b) b) l ∙ ap (λ (t : Bool). cond t (latched b) b) w

  -- a byte goes out, or a silence
  pub sending_byte : bytes_left b ≡ true → sending b ≡ next_byte (with_byte_ready b)
  unfolding sending
  sending_byte l = ap (λ (t : Bool). cond t (next_byte (with_byte_ready b)) (gives (silence ∷ []) b)) l

  pub sending_silence : bytes_left b ≡ false → sending b ≡ gives (silence ∷ []) b
  unfolding sending
  sending_silence l = ap (λ (t : Bool). cond t (next_byte (with_byte_ready b)) (gives (silence ∷ []) b)) l

  -- byte 4 of U is to be sent, or another
  pub ready_plain : second_now b ≡ false → with_byte_ready b ≡ b
  unfolding with_byte_ready
  ready_plain e = ap (λ (t : Bool). cond t (second_latched b) b) e

  pub ready_second : second_now b ≡ true → with_byte_ready b ≡ second_latched b
  unfolding with_byte_ready
  ready_second e = ap (λ (t : Bool). cond t (second_latched b) b) e

  -- bytes are broken off, or none are left
  pub dropped_busy : bytes_left b ≡ true → dropped b ≡ with_memory (hidden b.memory) (with_going nothing b)
  unfolding dropped
  dropped_busy l = ap (λ (t : Bool). cond t (with_memory (hidden b.memory) (with_going nothing b)) b) l

  pub dropped_idle : bytes_left b ≡ false → dropped b ≡ b
  unfolding dropped
  dropped_idle l = ap (λ (t : Bool). cond t (with_memory (hidden b.memory) (with_going nothing b)) b) l

  pub host_busy : (n : ℕ) → bytes_left b ≡ true → on_host n b ≡ gives (break ∷ []) (obeyed (command_of n) (dropped b))
  unfolding on_host
  host_busy n l = ap (λ (t : Bool). gives (cond t (break ∷ []) []) (obeyed (command_of n) (dropped b))) l

  pub host_idle : (n : ℕ) → bytes_left b ≡ false → on_host n b ≡ quietly (obeyed (command_of n) (dropped b))
  unfolding on_host
  host_idle n l = ap (λ (t : Bool). gives (cond t (break ∷ []) []) (obeyed (command_of n) (dropped b))) l
