-- What the code keeps of each frame of the pool, and what moving frames leaves.
use Rattle.std.specs.Prelude.{◌≡◌, ℕ, ◌+◌, ◌*◌, ◌-◌, ◌^◌, ◌<◌, ◌≤◌, List, length, slice_index, drop}
use Rattle.std.specs.Prelude.{slice_index_or, Bool, true, false, not, ◌&&◌, is_some, Some, None}
use Rattle.std.specs.List.{count_by}
use Rattle.std.specs.declared.ops.Range.{Range}
use Rattle.bl_stage.specs.declared.cell.Cell.{Cell}
use Rattle.bl_mem.specs.Memory.{HasRoom}
use Rattle.bl_stage.specs.internal.PackedCells.{no_holder}
use Rattle.bl_stage.specs.Ranges.{meets, IsSameOutside}
use Rattle.bl_stage.specs.Staged.{AreApart}

-- no range meets the frame
abbrev pub is_open_cell : Cell → Bool
is_open_cell cell = not cell.shut

-- a file's frame
abbrev pub is_held_cell : Cell → Bool
is_held_cell cell = is_some cell.holder

-- no file's frame, and no range meets it
abbrev pub is_spare_cell : Cell → Bool
is_spare_cell cell = not cell.shut && not (is_some cell.holder)

-- a file's frame that a range meets
abbrev pub is_stranded_cell : Cell → Bool
is_stranded_cell cell = cell.shut && is_some cell.holder

abbrev pub no_cell : Cell
no_cell = record { holder = None; shut = false }

abbrev pub cell_at : List Cell → ℕ → Cell
cell_at cells place = slice_index_or cells place no_cell

-- the cell of each of these frames has its place in the list as its holder, and no other cell has
-- a holder
pub record AreHeld (base : ℕ) (frames : List ℕ) (cells : List Cell) : Type 0 where
  pub low : (k : ℕ) → k < length frames → base ≤ slice_index frames k
  pub high : (k : ℕ) → k < length frames → slice_index frames k < base + length cells
  pub each : (k : ℕ) → k < length frames
      → (cell_at cells (slice_index frames k - base)).holder ≡ Some k
  pub within : (j k : ℕ) → (cell_at cells j).holder ≡ Some k → k < length frames
  pub back : (j k : ℕ) → (cell_at cells j).holder ≡ Some k → slice_index frames k ≡ base + j
  pub count : count_by is_held_cell cells ≡ length frames

-- each byte of each frame reads as before, where the frame lies now
abbrev pub ReadAlike : List ℕ → List ℕ → List ℕ → List ℕ → Type 0
ReadAlike old_bytes old_frames bytes frames =
    (k i : ℕ) → k < length old_frames → i < 4096
    → slice_index bytes (4096 * slice_index frames k + i)
    ≡ slice_index old_bytes (4096 * slice_index old_frames k + i)

-- the addresses of so many frames
abbrev pub frames_range : ℕ → ℕ → Range ℕ
frames_range base count = record { start = 4096 * base; end = 4096 * (base + count) }

-- of the first `done` cells those that are shut were left, and nothing else moved
pub record Moved (base : ℕ) (old new : List ℕ) (old_frames frames : List ℕ)
    (old_cells cells : List Cell) (done : ℕ) : Type 0 where
  pub held : AreHeld base frames cells
  pub long : length frames ≡ length old_frames
  pub wide : length cells ≡ length old_cells
  pub size : length new ≡ length old
  pub same : ReadAlike old old_frames new frames
  pub shut : (j : ℕ) → (cell_at cells j).shut ≡ (cell_at old_cells j).shut
  pub left : (j : ℕ) → j < done → (cell_at cells j).shut ≡ true → (cell_at cells j).holder ≡ None
  pub stays : (k : ℕ) → k < length old_frames
      → (cell_at old_cells (slice_index old_frames k - base)).shut ≡ false
      → slice_index frames k ≡ slice_index old_frames k
  pub outside : IsSameOutside (frames_range base (length old_cells)) old new

-- no frame meets a range, one that met none stays, each reads as before, and nothing outside the
-- pool changed
pub record MadeWay (base count : ℕ) (ranges : List (Range ℕ))
    (old new old_frames frames : List ℕ) : Type 0 where
  pub long : length frames ≡ length old_frames
  pub clear : (k : ℕ) → k < length frames → meets ranges (slice_index frames k) ≡ false
  pub stays : (k : ℕ) → k < length old_frames → meets ranges (slice_index old_frames k) ≡ false
      → slice_index frames k ≡ slice_index old_frames k
  pub same : ReadAlike old old_frames new frames
  pub outside : IsSameOutside (frames_range base count) old new
  pub size : length new ≡ length old

-- memory has these frames, if there are any
abbrev pub AreFramesInMemory : List ℕ → ℕ → ℕ → Type 0
AreFramesInMemory bytes base count = 0 < count → 4096 * (base + count) ≤ length bytes

-- the cells of the pool's frames hold these frames of files, the pool lies in memory, and each
-- address of it has room
pub record IsPoolInMemory {M : Type 0} (bytes_in : M → List ℕ) (room_in : M → ℕ → Type 0)
    (memory : M) (base : ℕ) (frames : List ℕ) (cells : List Cell) : Type 0 where
  pub held : AreHeld base frames cells
  pub small : 4096 * (base + length cells) < 2 ^ 64
  pub inside : AreFramesInMemory (bytes_in memory) base (length cells)
  pub room : HasRoom (room_in memory) (4096 * base) (4096 * (base + length cells))

-- memory has two frames of the pool, of which the second one has room
pub record CanCopyFrame {M : Type 0} (bytes_in : M → List ℕ) (room_in : M → ℕ → Type 0)
    (memory : M) (base : ℕ) (source : ℕ) (target : ℕ) : Type 0 where
  pub from : AreFramesInMemory (bytes_in memory) base (source + 1)
  pub to : AreFramesInMemory (bytes_in memory) base (target + 1)
  pub room : HasRoom (room_in memory) (4096 * (base + target)) (4096 * (base + target) + 4096)

-- there are these two cells and this slot, which has a name
pub record CanMoveSlot (base : ℕ) (frames : List ℕ) (cells : List Cell) (left : ℕ) (taken : ℕ)
    (number : ℕ) : Type 0 where
  pub slot : number < length frames
  pub named : number < no_holder
  pub from : left < length cells
  pub to : taken < length cells
  pub small : base + taken < 2 ^ 64

-- the first spare cell from `start` on
pub record IsNextSpare (cells : List Cell) (start : ℕ) (found : ℕ) : Type 0 where
  pub from : start ≤ found
  pub within : found < length cells
  pub spare : is_spare_cell (cell_at cells found) ≡ true
  pub rest : count_by is_spare_cell (drop (found + 1) cells) + 1
      ≡ count_by is_spare_cell (drop start cells)

-- each cell has the holder that it had
pub record KeepsHolders (old : List Cell) (new : List Cell) : Type 0 where
  pub wide : length new ≡ length old
  pub holders : (j : ℕ) → (cell_at new j).holder ≡ (cell_at old j).holder

-- these frames can be held: no cell has a holder, and each frame is one of the cells', named once
pub record CanHold (base : ℕ) (frames : List ℕ) (cells : List Cell) : Type 0 where
  pub empty : (j : ℕ) → (cell_at cells j).holder ≡ None
  pub few : length cells < 2 ^ 32
  pub low : (k : ℕ) → k < length frames → base ≤ slice_index frames k
  pub high : (k : ℕ) → k < length frames → slice_index frames k < base + length cells
  pub apart : AreApart frames
