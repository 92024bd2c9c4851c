-- What stands in a JSON string as it is. (RFC 8259, unescaped.)
use Rattle.std.specs.Prelude.{ℕ, Bool, ◌==◌, ◌&&◌, not, nat_le}

-- neither a control character nor a quote nor a backslash
abbrev pub is_unescaped_byte : ℕ → Bool
is_unescaped_byte x = nat_le 32 x && (not (x == 34) && not (x == 92))
