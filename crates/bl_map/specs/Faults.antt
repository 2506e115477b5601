-- What refuses a machine. Own.
use Rattle.std.specs.Prelude.{◌≤◌, ◌<◌, ℕ, List, length, take, All, slice_get, IfSome}
use Rattle.std.specs.declared.ops.Range.{Range}
use Rattle.bl_map.specs.declared.region.Region.{Region}
use Rattle.bl_map.specs.declared.fault.MapFault.{MapFault}
use Rattle.bl_map.specs.declared.fault.MapFault.TheVariants.{BadSize, TooManyRegions, BadRegion}
use Rattle.bl_map.specs.declared.fault.MapFault.TheVariants.{BadPool, NoMemory, BadScreenSize}
use Rattle.bl_map.specs.declared.fault.MapFault.TheVariants.{BadScreenDepth, BadScreenColor}
use Rattle.bl_map.specs.declared.fault.MapFault.TheVariants.{BadScreenPitch, BadScreenPlace}
use Rattle.bl_map.specs.declared.fault.MapFault.TheVariants.{BadRsdp, BadSystemTable}
use Rattle.bl_map.specs.declared.fault.MapFault.TheVariants.{BadDescriptors, BadEfiMapSize}
use Rattle.bl_map.specs.declared.fault.MapFault.TheVariants.{BadEfiMapPlace, BadSmbiosSize}
use Rattle.bl_map.specs.declared.fault.MapFault.TheVariants.{TooManyAvoided, BadAvoided}
use Rattle.bl_map.specs.declared.fault.MapFault.TheVariants.{PoolAvoided}
use Rattle.bl_map.specs.Limits.{max_regions, max_region_end}
use Rattle.bl_map.specs.NormalMap.{region_end}
use Rattle.bl_map.specs.MachineFacts.{IsSize, IsPool}

abbrev pub map_fault_number : MapFault → ℕ
-- >>> tools/refusals: number cases of MapFault
map_fault_number BadSize = 1
map_fault_number (BadRegion i) = 2
map_fault_number TooManyRegions = 3
map_fault_number BadPool = 4
map_fault_number NoMemory = 5
map_fault_number BadScreenSize = 6
map_fault_number BadScreenDepth = 7
map_fault_number BadScreenColor = 8
map_fault_number BadScreenPitch = 9
map_fault_number BadScreenPlace = 10
map_fault_number BadRsdp = 11
map_fault_number BadSystemTable = 12
map_fault_number BadDescriptors = 13
map_fault_number BadEfiMapSize = 14
map_fault_number BadEfiMapPlace = 15
map_fault_number BadSmbiosSize = 16
map_fault_number TooManyAvoided = 17
map_fault_number (BadAvoided i) = 18
map_fault_number PoolAvoided = 19

-- <<<

-- a region ends at most at 2^52
abbrev pub HasAllowedEnd : Region → Type 0
HasAllowedEnd region = region_end region ≤ max_region_end

-- the first fault of a machine of which firmware tells nothing, in the order of these lines; memory
-- may run out at any growth
abbrev pub HasFirstMapFault : ℕ → List Region → Range ℕ → MapFault → Type 0
HasFirstMapFault size regions pool BadSize = ¬ IsSize size
HasFirstMapFault size regions pool TooManyRegions = IsSize size × (max_regions < length regions)
HasFirstMapFault size regions pool (BadRegion i) =
    IsSize size × (length regions ≤ max_regions) × (i < length regions)
    × All HasAllowedEnd (take i regions)
    × IfSome (slice_get regions i) (λ region. ¬ HasAllowedEnd region)
HasFirstMapFault size regions pool BadPool =
    IsSize size × (length regions ≤ max_regions) × All HasAllowedEnd regions
    × (¬ IsPool regions size pool)
HasFirstMapFault size regions pool NoMemory = Unit {0}
HasFirstMapFault size regions pool fault = ⊥

-- none of these faults stands
pub record IsAccepted (size : ℕ) (regions : List Region) (pool : Range ℕ) : Type 0 where
  pub size_is : IsSize size
  pub few : length regions ≤ max_regions
  pub low : All HasAllowedEnd regions
  pub pool_is : IsPool regions size pool
