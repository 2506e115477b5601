-- What the code keeps as it takes the bytes of an image's parts. Own.
use Rattle.std.specs.Prelude.{◌≡◌, ℕ, ◌+◌, ◌≤◌, List, [], ◌∷◌, ◌++◌, length, take, drop, map, All}
use Rattle.sha2.specs.Sha256.{sha256}
use Rattle.bl_plan.specs.declared.part.Place.{Place}
use Rattle.bl_digest.specs.declared.part_digest.PartDigest.{PartDigest}
use Rattle.bl_digest.specs.DigestsFacts.{DigestsFacts}

-- what contracts see of a `PartsHasher`: the places of the parts, and the bytes that were taken
pub record PartsFacts : Type 0 where
  pub places : List Place
  pub taken : List ℕ

-- what contracts see of an `ImageHasher`: what the image has before the parts' bytes, the places of
-- the parts, and the parts' bytes that were taken
pub record HashedFacts : Type 0 where
  pub front : List ℕ
  pub places : List Place
  pub taken : List ℕ

-- how many bytes the parts at these places have
abbrev pub total_of : List Place → ℕ
total_of [] = 0
total_of (place ∷ places) = place.length + total_of places

-- how many bytes the first of the parts has; none if there is no part
abbrev pub first_length : List Place → ℕ
first_length [] = 0
first_length (place ∷ places) = place.length

-- the digests of the parts at these places, whose bytes are these, one part's after the other's
abbrev pub part_digests : List Place → List ℕ → List PartDigest
part_digests [] bytes = []
part_digests (place ∷ places) bytes =
    record { place = place; sha256 = sha256 (take place.length bytes) }
    ∷ part_digests places (drop place.length bytes)

-- the digests of an image with this front
abbrev pub digests_along : HashedFacts → DigestsFacts
digests_along h = record {
  image = record {
    length = length (h.front ++ h.taken);
    sha256 = sha256 (h.front ++ h.taken);
    front_length = length h.front;
    front_sha256 = sha256 h.front;
  };
  parts = part_digests h.places h.taken;
}

abbrev pub told_place : PartDigest → Place
told_place row = row.place

-- of the first of these places these bytes were taken, so many are left of it, and so many of all
abbrev pub IsInside : List Place → List ℕ → ℕ → ℕ → Type 0
IsInside [] begun left room = (begun ≡ []) × (left ≡ 0) × (room ≡ 0)
IsInside (place ∷ places) begun left room =
    (1 ≤ left) × (length begun + left ≡ place.length) × (left + total_of places ≡ room)

-- the first `index` of these rows have the digests that they keep, whatever bytes are still taken;
-- `begun` was taken of the part behind them
pub record AreBegun (rows : List PartDigest) (index : ℕ) (begun : List ℕ) (left room : ℕ)
    (taken : List ℕ) : Type 0 where
  pub digests : (more : List ℕ) → part_digests (map told_place rows) (taken ++ more)
      ≡ take index rows ++ part_digests (drop index (map told_place rows)) (begun ++ more)
  pub inside : IsInside (drop index (map told_place rows)) begun left room
  pub filled : All (λ place. 1 ≤ place.length) (map told_place rows)
  pub count : length taken + room ≡ total_of (map told_place rows)

-- the image so far is its front and what was taken of its parts; front and lengths are told
pub record IsHashed (before : List ℕ) (parts : PartsFacts) (image : List ℕ)
    (length_told front_length : ℕ) (front : List ℕ) : Type 0 where
  pub so_far : image ≡ before ++ parts.taken
  pub long : length_told ≡ length before + total_of parts.places
  pub front_long : front_length ≡ length before
  pub front_is : front ≡ sha256 before
