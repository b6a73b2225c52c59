-- What the code's types give: the record has arrays of six, and the lent words have 64 bits. So what the code calls sound is sound input.
use Rattle.common.specs.Kit.{ℕ, ◌^◌, ◌<◌, ◌≡◌, List, length, get_or}
use Rattle.region.specs.Sound.{Sound}
use Rattle.region.specs.declared.HeapMemoryRegion.{HeapMemoryRegion}
use Rattle.sound_calls.proofs.SoundInput.{SoundInput}

pub good : (r : HeapMemoryRegion) (ws : List ℕ) → length r.nr_pages ≡ 6 → length r.free_pages ≡ 6 → length r.next_page ≡ 6
    → ((i : ℕ) → get_or ws i 0 < 2 ^ 64) → Sound r ws → SoundInput r ws
good r ws nr frees heads fits sound = record { typed = record { nr = nr; frees = frees; heads = heads; bits = λ p l. fits p }; sound = sound }
