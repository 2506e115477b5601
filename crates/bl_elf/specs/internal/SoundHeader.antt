-- What the code keeps while it reads: words for the clauses of its own functions alone. What a file
-- is, is defined without them.
use Rattle.std.specs.Prelude.{◌≡◌, ◌<◌, ◌^◌, ℕ, List, length, None}
use Rattle.bl_elf.specs.declared.header.Header.{Header}
use Rattle.bl_elf.specs.Header.{header_of, header_fault}

-- own: a sound header that was read, of a file whose length is a 64-bit number
pub record IsSoundHeaderOf (bytes : List ℕ) (header : Header) : Type 0 where
  pub is : header ≡ header_of bytes
  pub sound : header_fault bytes ≡ None
  pub short : length bytes < 2 ^ 64
