-- `sound_b` decides `Sound`: each line's test decides its field, and may rest on the lines before it. This is a result.
use Rattle.common.specs.Kit.{ℕ, ◌+◌, ◌-◌, ◌*◌, ◌%◌, ◌^◌, ◌≡◌, refl, true, List, length, get_or}
use Rattle.pages.specs.Info.{allocated_info, reserved_info}
use Rattle.region.specs.Layout.{end_of, max_pages, managed}
use Rattle.region.specs.Pages.{blocks, frees}
use Rattle.region.specs.Sound.{Sound}
use Rattle.region.specs.declared.HeapMemoryRegion.{HeapMemoryRegion}
use Rattle.audit.specs.Decides.{Decides}
use Rattle.audit.specs.Check.{keeps, numbers, every, sound_b}
use Rattle.audit.specs.Counts.{InLimits}
use Rattle.audit.proofs.Limit.{limits-bounded}
use Rattle.audit.proofs.Order.{sound-order}
use Rattle.audit.proofs.Decisions.{decide_true, decide_eq, decide-le, decide-as, decide-and, decide-orders}
use Rattle.audit.proofs.Saying.{decide-say}
use Rattle.audit.proofs.Tiling.{decide-tiles}
use Rattle.audit.proofs.Listing.{decide-list}
use Rattle.audit.proofs.Buddies.{decide-buddies}

module _ (r : HeapMemoryRegion) (ws : List ℕ) where
  pub decide-limits : Decides (every (keeps r ws) numbers) (InLimits r ws)
  unfolding keeps
  decide-limits =
      decide-as
      (λ x. record { some = x.0; most = x.1.0; long = x.1.1.0; aligned = x.1.1.1.0; ends = x.1.1.1.1.0; boot = x.1.1.1.1.1.0 })
      (λ l. (l.some, (l.most, (l.long, (l.aligned, (l.ends, (l.boot, tt)))))))
      (decide-and (decide-le 1 r.page_count)
      (λ _. decide-and (decide-le r.page_count max_pages)
      (λ _. decide-and (decide_eq (length ws) r.page_count)
      (λ _. decide-and (decide_eq (r.start_virt.0 % 4096) 0)
      (λ _. decide-and (decide-le (r.start_virt.0 + 4096 * r.page_count) (2 ^ 64 - 1))
      (λ _. decide-and (decide-le r.allocated (end_of r)) (λ _. decide_true)))))))

  pub in-limits : every (keeps r ws) numbers ≡ true → InLimits r ws
  in-limits = decide-limits.yes

  pub sound-decides : Decides (sound_b r ws) (Sound r ws)
  unfolding sound_b keeps
  sound-decides =
      let M = managed r ws in
      let e = end_of r in
      decide-as
      (λ x. record {
        limits = x.0;
        boot = x.1.0.0;
        metadata = x.1.0.1.0;
        tiled = x.1.0.1.1.0;
        lists = x.1.1.0;
        buddies = x.1.1.1.0;
        totals = x.1.1.1.1.0;
        free = x.1.1.1.1.1.0;
      })
      (λ s. (s.limits, ((s.boot, (s.metadata, (s.tiled, tt))), (s.lists, (s.buddies, (s.totals, (s.free, tt)))))))
      (decide-and decide-limits
      (λ l. decide-and
      (decide-and (decide-say ws 0 r.allocated (allocated_info 0) refl (λ w e. e))
      (λ _. decide-and (decide-say ws e r.page_count reserved_info refl (λ w e. e))
      (λ _. decide-and (decide-tiles ws M (limits-bounded r ws l)) (λ _. decide_true))))
      (λ m. decide-and (decide-orders (λ o. decide-list ws (limits-bounded r ws l) o (get_or r.next_page o 0)))
      (λ _. decide-and (decide-buddies ws M (limits-bounded r ws l) m.1.1.0)
      (λ _. decide-and (decide-orders (λ o. decide_eq (get_or r.nr_pages o 0) (blocks ws M e o)))
      (λ _. decide-and (decide-orders (λ o. decide_eq (get_or r.free_pages o 0) (frees ws M e o))) (λ _. decide_true)))))))

-- the groups of lines that the code takes, one after the other
pub ruleset groups = (sound-order, in-limits)
