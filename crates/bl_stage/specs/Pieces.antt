-- The pieces of files: each has 4096 bytes, and a file's last piece what is left. Own.
use Rattle.std.specs.Prelude.{ℕ, ◌+◌, ◌-◌, ◌*◌, min, length, slice_index, slice_index_or, slice_set}
use Rattle.std.specs.Prelude.{Bool, true, false, not, ◌&&◌, nat_lt, ◌==◌, if◌then◌else◌}
use Rattle.bl_map.specs.PoolFrames.{frames_of}
use Rattle.bl_stage.specs.declared.stage.putting.Put.{Put}
use Rattle.bl_stage.specs.declared.stage.putting.Put.TheVariants.{Stored, Repeated, Strange}
use Rattle.bl_stage.specs.Staged.{Staging, frames_before}

-- there is such a file, it has a piece of this index, and that has this length
abbrev pub is_piece : Staging → ℕ → ℕ → ℕ → Bool
is_piece stage file index len =
    nat_lt file (length stage.sizes)
    && (nat_lt index (frames_of (slice_index stage.sizes file))
    && (len == min (slice_index stage.sizes file - 4096 * index) 4096))

-- a piece's place in the list of all frames
abbrev pub slot_in : Staging → ℕ → ℕ → ℕ
slot_in stage file index = frames_before stage.sizes file + index

-- there is such a file and piece, and the piece did not come
abbrev pub is_missing : Staging → ℕ → ℕ → Bool
is_missing stage file index =
    nat_lt file (length stage.sizes)
    && (nat_lt index (frames_of (slice_index stage.sizes file))
    && not (slice_index_or stage.came (slot_in stage file index) false))

-- what a piece is answered: one that is none is strange, whether that index came or not
abbrev pub put_answer : Staging → ℕ → ℕ → ℕ → Put
put_answer stage file index len =
    if is_piece stage file index len
    then (if slice_index_or stage.came (slot_in stage file index) false then Repeated else Stored)
    else Strange

-- the stage to which one more piece came
abbrev pub stage_with : Staging → ℕ → ℕ → Staging
stage_with stage file index = record {
  pool = stage.pool;
  sizes = stage.sizes;
  frames = stage.frames;
  came = slice_set stage.came (slot_in stage file index) true;
}
