-- Pages of which none is managed are sound exactly up to the limit on pages, whatever that is. This is a result.
use Rattle.common.specs.Kit.{ℕ, ◌+◌, ◌-◌, ◌*◌, ◌^◌, ◌≤◌, ◌<◌, ◌≡◌, refl, sym, ap, ◌∙◌, false, List, [], T, leb, length, get_or, replicate, get_or-replicate, arith, le-leb, leb-true}
use lib.ListN.{length-append, length-replicate, get_or-append}
use lib.Seq.{get_or-append-add}
use Rattle.common.proofs.Tests.{by-test}
use Rattle.common.proofs.Counts.{no-count}
use Rattle.words.specs.Word.{no_page, row, decode_of, mem_of}
use Rattle.buddy.proofs.Spans.{span-out}
use Rattle.pages.specs.Info.{allocated_info, reserved_info}
use Rattle.region.specs.Layout.{max_pages, meta_pages, alloc_pages, managed}
use Rattle.region.specs.Sound.{Sound}
use Rattle.audit.specs.Check.{keeps, sound_b}
use Rattle.audit.specs.Cases.{idle_region, idle_words}
use Rattle.audit.proofs.Sound.{sound-decides}

module _ (n : ℕ) (some : 1 ≤ n) where
  abbrev boots : List ℕ
  boots = replicate (alloc_pages n) (mem_of (allocated_info 0))

  boot-word : (p : ℕ) → p < alloc_pages n → get_or (idle_words n) p 0 ≡ mem_of (allocated_info 0)
  boot-word p h = get_or-append boots _ 0 p (rw length-replicate h) ∙ get_or-replicate (alloc_pages n) p _ 0 h

  metadata-word : (p : ℕ) → alloc_pages n ≤ p → p < n → get_or (idle_words n) p 0 ≡ mem_of reserved_info
  metadata-word p h k =
      let q : length boots + (p - alloc_pages n) ≡ p = rw length-replicate (omega arith) in
      ap (λ i. get_or (idle_words n) i 0) (sym q)
      ∙ get_or-append-add boots _ (p - alloc_pages n) 0
      ∙ get_or-replicate (meta_pages n) (p - alloc_pages n) _ 0 (omega arith)

  unmanaged : (p : ℕ) → managed (idle_region n) (idle_words n) p ≡ false
  unmanaged p = span-out (alloc_pages n) (alloc_pages n) p (omega arith)

  none : (p : ℕ) → T (managed (idle_region n) (idle_words n) p) → ⊥
  none p m = rw (unmanaged p) at m

  idle-sound : 1048576 + 4096 * n ≤ 2 ^ 64 - 1 → n ≤ max_pages → Sound (idle_region n) (idle_words n)
  unfolding row decode_of mem_of
  idle-sound ends most =
      let a = alloc_pages n in
      let ws = idle_words n in
      record {
        limits = record {
          some = some;
          most = most;
          long = simp (length-append, length-replicate) (omega arith);
          aligned = refl;
          ends = ends;
          boot = omega arith;
        };
        boot = record { each = λ p _ h. ap decode_of (boot-word p h) };
        metadata = record { each = λ p h k. ap decode_of (metadata-word p h k) };
        tiled = record { each = λ q m. absurd (none q m) };
        lists = λ o h. record { list = []; linked = get_or-replicate 6 o no_page 0 h; once = λ p f. absurd (none p f.managed) };
        buddies = record { none = λ o p l f g. none p f.managed };
        totals = λ o h. get_or-replicate 6 o 0 0 h ∙ sym (no-count _ a (λ p. rw (unmanaged p)));
        free = λ o h. get_or-replicate 6 o 0 0 h ∙ sym (no-count _ a (λ p. rw (unmanaged p)));
      }

  pub idle-answer : 1048576 + 4096 * n ≤ 2 ^ 64 - 1 → sound_b (idle_region n) (idle_words n) ≡ leb n max_pages
  unfolding sound_b keeps
  idle-answer ends =
      by-test (leb n max_pages)
      (λ t. (sound-decides (idle_region n) (idle_words n)).back (idle-sound ends (leb-true n max_pages t)) ∙ sym t)
      (λ t. rw (le-leb 1 n some, t))
