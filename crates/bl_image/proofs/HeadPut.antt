-- A head that was put together of its pieces.
use Rattle.std.proofs.Common.{◌≡◌, ℕ, List, [], ◌++◌, take, ap, ◌∙◌, append_assoc}
use Rattle.std.proofs.lemmas.List.{append-nil}
use Rattle.bl_mem.specs.LittleEndian.{u32_bytes}
use Rattle.bl_plan.specs.Protocols.{protocol_number}
use Rattle.bl_plan.specs.declared.protocol.Protocol.{Protocol}
use Rattle.bl_load.specs.declared.registers.Registers.{Registers}
use Rattle.bl_image.specs.Image.{magic, head, spelled_registers}
use Rattle.bl_image.specs.Versions.{version_number}
use Rattle.bl_image.specs.declared.version.Version.{Version}

regroup : (m a b n c d : List ℕ)
    → ((m ++ (a ++ (b ++ []))) ++ n) ++ (c ++ (d ++ [])) ≡ m ++ (a ++ (b ++ (n ++ (c ++ d))))
regroup m a b n c d = simp (append_assoc, append-nil)

pieces : (m b1 b2 b3 b4 opening numbers closing : List ℕ) → take 8 b1 ≡ m
    → take 16 b2 ≡ take 8 b1 ++ opening → take 264 b3 ≡ take 16 b2 ++ numbers
    → b4 ≡ take 264 b3 ++ closing → b4 ≡ ((m ++ opening) ++ numbers) ++ closing
pieces m b1 b2 b3 b4 opening numbers closing one two three four =
    four
    ∙ ap (λ (l : List ℕ). l ++ closing)
    (three
    ∙ ap (λ (l : List ℕ). l ++ numbers) (two ∙ ap (λ (l : List ℕ). l ++ opening) one))

pub head_put : (version : Version) (protocol : Protocol) (r : Registers) (count : ℕ)
    (b1 b2 b3 b4 : List ℕ) {opening numbers closing : List ℕ}
    → opening
    ≡ u32_bytes (version_number version) ++ (u32_bytes (protocol_number protocol) ++ [])
    → numbers ≡ spelled_registers version r → closing ≡ u32_bytes count ++ (u32_bytes 0 ++ [])
    → take 8 b1 ≡ magic → take 16 b2 ≡ take 8 b1 ++ opening
    → take 264 b3 ≡ take 16 b2 ++ numbers → b4 ≡ take 264 b3 ++ closing
    → b4 ≡ head version protocol r count
head_put version protocol r count b1 b2 b3 b4 {opening} {numbers} {closing} o n c e1 e2 e3 e4 =
    pieces magic b1 b2 b3 b4 opening numbers closing e1 e2 e3 e4
    ∙ ap (λ (l : List ℕ). ((magic ++ l) ++ numbers) ++ closing) o
    ∙ ap
    (λ (l : List ℕ).
    ((magic ++ (u32_bytes (version_number version) ++ (u32_bytes (protocol_number protocol) ++ [])))
    ++ l)
    ++ closing)
    n
    ∙ ap
    (λ (l : List ℕ).
    ((magic ++ (u32_bytes (version_number version) ++ (u32_bytes (protocol_number protocol) ++ [])))
    ++ spelled_registers version r)
    ++ l)
    c
    ∙ regroup magic (u32_bytes (version_number version)) (u32_bytes (protocol_number protocol))
    (spelled_registers version r) (u32_bytes count) (u32_bytes 0)
