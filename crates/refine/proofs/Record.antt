-- The record of an image: what it says of each order, and what the record becomes when a list or a number of blocks changes.
use Rattle.common.specs.Kit.{ℕ, ◌<◌, ◌≡◌, ap, ◌∙◌, List, length}
use Rattle.common.specs.Numbers.{update}
use Rattle.buddy.specs.Heap.{Tag, Heap}
use Rattle.region.specs.State.{head_in, frees_in, blocks_in, with_list, with_blocks}
use Rattle.refine.specs.Image.{head_or, table, region_of, image}
use Rattle.region.specs.declared.HeapMemoryRegion.{HeapMemoryRegion}
use Rattle.refine.proofs.Tables.{get_d-table}
use Rattle.refine.proofs.Changes.{table-update}

module _ (r : HeapMemoryRegion) (h : Heap) (o : ℕ) where
  module _ (valid : o < 6) where
    pub head-image : head_in (image r h) o ≡ head_or (h.list o)
    unfolding region_of
    head-image = get_d-table _ 6 o valid

    pub frees-image : frees_in (image r h) o ≡ length (h.list o)
    unfolding region_of
    frees-image = get_d-table _ 6 o valid

    pub blocks-image : blocks_in (image r h) o ≡ h.blocks o
    unfolding region_of
    blocks-image = get_d-table _ 6 o valid

  -- the record shows no tag: these may be any
  module _ (at : ℕ → Tag) where
    pub region-list : (l : List ℕ) → with_list (region_of r h) o (head_or l) (length l)
        ≡ region_of r (record { at = at; list = update h.list o l; blocks = h.blocks })
    unfolding with_list region_of
    region-list l = λ i. record {
      start_virt = r.start_virt;
      page_count = r.page_count;
      allocated = r.allocated;
      nr_pages = table h.blocks 0 6;
      free_pages = table-update length h.list 6 o l i;
      next_page = table-update head_or h.list 6 o l i;
    }

    pub region-blocks : (n : ℕ) → with_blocks (region_of r h) o n
        ≡ region_of r (record { at = at; list = h.list; blocks = update h.blocks o n })
    unfolding with_blocks region_of
    region-blocks n = λ i. record {
      start_virt = r.start_virt;
      page_count = r.page_count;
      allocated = r.allocated;
      nr_pages = table-update (λ x. x) h.blocks 6 o n i;
      free_pages = table (λ k. length (h.list k)) 0 6;
      next_page = table (λ k. head_or (h.list k)) 0 6;
    }

-- two numbers of blocks change
pub region-two : (r : HeapMemoryRegion) (h : Heap) (at : ℕ → Tag) (i m j n : ℕ) → with_blocks (with_blocks (region_of r h) i m) j n
    ≡ region_of r (record { at = at; list = h.list; blocks = update (update h.blocks i m) j n })
region-two r h at i m j n = ap (λ x. with_blocks x j n) (region-blocks r h i at m) ∙ region-blocks r _ j at n
