-- What is counted of replies: the bytes of whole ones, and those of broken ones.
use Rattle.std.specs.Prelude.{ℕ, Option, None, Some}
use Rattle.replies.specs.declared.Reply.{Reply}
use Rattle.replies.specs.declared.Reply.TheVariants as reply

abbrev pub whole_bytes : Option Reply → ℕ
whole_bytes None = 0
whole_bytes (Some reply.Ack) = 1
whole_bytes (Some (reply.Format f)) = 1
whole_bytes (Some (reply.Letters f m)) = 2
whole_bytes (Some (reply.Buttons n)) = 3
whole_bytes (Some (reply.Broken came)) = 0

abbrev pub broken_bytes : Option Reply → ℕ
broken_bytes None = 0
broken_bytes (Some reply.Ack) = 0
broken_bytes (Some (reply.Format f)) = 0
broken_bytes (Some (reply.Letters f m)) = 0
broken_bytes (Some (reply.Buttons n)) = 0
broken_bytes (Some (reply.Broken came)) = came.count
