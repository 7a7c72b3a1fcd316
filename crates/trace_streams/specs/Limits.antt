-- The limit on what is read of one text.
use Rattle.std.specs.Prelude.{ℕ, suc}
use Rattle.tso_text.specs.Texts.{text_byte_limit}

-- how many bytes of a text are read at most: one past the limit shows that it is too long
abbrev pub trace_read_limit : ℕ
trace_read_limit = suc text_byte_limit
