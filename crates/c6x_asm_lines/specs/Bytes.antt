-- The bytes that stand at a place of a text.
use Rattle.std.specs.Prelude.{ℕ, ◌+◌, nat_le, if◌then◌else◌, List, [], length, slice_range}

-- so many bytes from an offset on; none where the text is shorter
unfoldable pub bytes_at : List ℕ → ℕ → ℕ → List ℕ
bytes_at text at len = if nat_le (at + len) (length text) then slice_range text at (at + len) else []
