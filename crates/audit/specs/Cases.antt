-- Cases of the audit: region R of the customer's cases after set-up, one page, a small state, and states that break one line each.
use Rattle.std.specs.Prelude.{ℕ, ◌-◌, ◌*◌, ◌^◌, Bool, true, false, cond, List, [], ◌∷◌, ◌++◌, map, set, take, replicate}
use Rattle.words.specs.Word.{no_page, mem_of}
use Rattle.words.specs.declared.word.PageInfo.{PageInfo}
use Rattle.pages.specs.Info.{free_info, allocated_info, slab_info, compound_info, file_info, reserved_info}
use Rattle.region.specs.Layout.{meta_pages, alloc_pages}
use Rattle.region.specs.State.{with_list, with_blocks}
use Rattle.region.specs.declared.HeapMemoryRegion.{HeapMemoryRegion}
use Rattle.audit.specs.Check.{Line, some, long, aligned, ends, fits, boot, metadata, tiled, lists, buddies, totals, free, numbers, marks, stocks, keeps, sound_b}

-- those of these lines that record and words break
abbrev pub broken : HeapMemoryRegion → List ℕ → List Line → List Line
broken r ws [] = []
broken r ws (l ∷ ls) = cond (keeps r ws l) (broken r ws ls) (l ∷ broken r ws ls)

-- a state, with the lines that it breaks and the answer of the audit
pub record Case : Type 0 where
  pub reg : HeapMemoryRegion
  pub ws : List ℕ
  pub breaks : List Line
  pub answer : Bool

-- the state with what the definitions find
abbrev pub found : Case → Case
found c = record {
  reg = c.reg;
  ws = c.ws;
  breaks = broken c.reg c.ws (numbers ++ marks ++ stocks);
  answer = sound_b c.reg c.ws;
}

abbrev sound : HeapMemoryRegion → List ℕ → Case
sound r ws = record { reg = r; ws = ws; breaks = []; answer = true }

abbrev refused : List Line → HeapMemoryRegion → List ℕ → Case
refused ls r ws = record { reg = r; ws = ws; breaks = ls; answer = false }

abbrev six : ℕ → ℕ → ℕ → ℕ → ℕ → ℕ → List ℕ
six a b c d e f = a ∷ b ∷ c ∷ d ∷ e ∷ f ∷ []

abbrev region : ℕ → ℕ → ℕ → List ℕ → List ℕ → List ℕ → HeapMemoryRegion
region start n a nr fr heads = record {
  start_virt = record { 0 = start };
  page_count = n;
  allocated = a;
  nr_pages = nr;
  free_pages = fr;
  next_page = heads;
}

abbrev nothing : List ℕ
nothing = replicate 6 0

abbrev none : List ℕ
none = replicate 6 no_page

abbrev free_block : ℕ → ℕ → List ℕ
free_block o next = mem_of (free_info o next) ∷ replicate (2 ^ o - 1) (mem_of (compound_info o))

-- region R after set-up: lists 62, 3; 60; 56, 4; 48, 8; 32, 16; none. It is at 1048576, with 3 boot pages and 2 blocks of order 0
abbrev r_at : ℕ → ℕ → ℕ → HeapMemoryRegion
r_at start a singles = region start 64 a (six singles 1 2 2 2 0) (six 2 1 2 2 2 0) (six 62 60 56 48 32 no_page)

abbrev pub r_words : List ℕ
r_words =
    replicate 3 (mem_of (allocated_info 0))
    ++ free_block 0 no_page
    ++ free_block 2 no_page
    ++ free_block 3 no_page
    ++ free_block 4 no_page
    ++ free_block 4 16
    ++ free_block 3 8
    ++ free_block 2 4
    ++ free_block 1 no_page
    ++ free_block 0 3
    ++ (mem_of reserved_info ∷ [])

-- n pages, none of them managed
abbrev pub idle_region : ℕ → HeapMemoryRegion
idle_region n = region 1048576 n (alloc_pages n) nothing nothing none

abbrev pub idle_words : ℕ → List ℕ
idle_words n = replicate (alloc_pages n) (mem_of (allocated_info 0)) ++ replicate (meta_pages n) (mem_of reserved_info)

-- eight pages, one boot: free blocks at 1, 2 and 6, a block out at 4; list 0 is 6, 1 and list 1 is 2
abbrev s_at : ℕ → HeapMemoryRegion
s_at start = region start 8 1 (six 2 2 0 0 0 0) (six 2 1 0 0 0 0) (six 6 2 no_page no_page no_page no_page)

abbrev s_region : HeapMemoryRegion
s_region = s_at 1048576

abbrev s_words : List ℕ
s_words =
    map mem_of
    (allocated_info 0
    ∷ free_info 0 no_page
    ∷ free_info 1 no_page
    ∷ compound_info 1
    ∷ allocated_info 1
    ∷ compound_info 1
    ∷ free_info 0 1
    ∷ reserved_info
    ∷ [])

-- another word at page p
abbrev put : ℕ → PageInfo → List ℕ → List ℕ
put p i ws = set ws p (mem_of i)

-- page 1 is out and says i; list 0 is 6, with n blocks of order 0 in all
abbrev out_region : ℕ → HeapMemoryRegion
out_region n = with_blocks (with_list s_region 0 6 1) 0 n

abbrev out_words : PageInfo → List ℕ
out_words i = put 1 i (put 6 (free_info 0 no_page) s_words)

unfoldable pub table : List Case
table =
    sound (r_at 1048576 3 2) r_words
    -- what no audit can see: another start; boot page 2 counted as a block that is out
    ∷ sound (r_at 2097152 3 2) r_words
    ∷ sound (r_at 1048576 2 3) r_words
    ∷ sound (idle_region 1) (idle_words 1)
    -- 63 boot pages in 64
    ∷ sound (idle_region 64) (idle_words 64)
    ∷ sound s_region s_words
    -- File and SlabPage head blocks, from count 1 and item 1 on. What no audit can see: a granted page that was made one of another kind, or a
    -- File whose count was changed
    ∷ sound (out_region 2) (out_words (file_info 1))
    ∷ sound (out_region 2) (out_words (slab_info 1))
    ∷ sound (out_region 2) (out_words (allocated_info 0))
    ∷ sound (out_region 2) (out_words (file_info 7))
    -- no pages
    ∷ refused (some ∷ []) (idle_region 0) (idle_words 0)
    -- 513 words for 512 pages, and 7 for 8, where the metadata page has no word
    ∷ refused (long ∷ []) (idle_region 512) (idle_words 512 ++ (mem_of reserved_info ∷ []))
    ∷ refused (long ∷ metadata ∷ []) s_region (take 7 s_words)
    -- a start that is no multiple of 4,096, and one whose end is 2^64
    ∷ refused (aligned ∷ []) (s_at 1048577) s_words
    ∷ refused (ends ∷ []) (s_at (2 ^ 64 - 8 * 4096)) s_words
    -- 64 boot pages in 64: the last is no metadata page then
    ∷ refused (fits ∷ metadata ∷ []) (region 1048576 64 64 nothing nothing none) (replicate 64 (mem_of (allocated_info 0)))
    -- a boot page that is Allocated of order 1, or Free; a metadata page that is Allocated, or Free
    ∷ refused (boot ∷ []) s_region (put 0 (allocated_info 1) s_words)
    ∷ refused (boot ∷ []) s_region (put 0 (free_info 0 no_page) s_words)
    ∷ refused (metadata ∷ []) s_region (put 7 (allocated_info 0) s_words)
    ∷ refused (metadata ∷ []) s_region (put 7 (free_info 0 no_page) s_words)
    -- a Compound word of another order, and one in a head's place
    ∷ refused (tiled ∷ []) s_region (put 5 (compound_info 2) s_words)
    ∷ refused (tiled ∷ []) (with_blocks s_region 1 1) (put 4 (compound_info 1) s_words)
    -- a block of order 1 at page 1, and one that ends behind the managed pages
    ∷ refused (tiled ∷ []) (with_list (out_region 2) 1 no_page 0)
    (put 2 (compound_info 1) (put 3 (allocated_info 0) (out_words (allocated_info 1))))
    ∷ refused (tiled ∷ []) (with_blocks (with_blocks (with_list s_region 0 1 1) 0 1) 1 3) (put 6 (allocated_info 1) s_words)
    -- pages that head nothing: File 0, SlabPage 0, Reserved, and a word that does not decode
    ∷ refused (tiled ∷ []) (out_region 1) (out_words (file_info 0))
    ∷ refused (tiled ∷ []) (out_region 1) (out_words (slab_info 0))
    ∷ refused (tiled ∷ []) (out_region 1) (out_words reserved_info)
    ∷ refused (tiled ∷ []) (out_region 1) (set (out_words reserved_info) 1 0x63)
    -- list 0 in a loop, without its first block, without its last, and with no end among the managed pages
    ∷ refused (lists ∷ []) s_region (put 1 (free_info 0 6) s_words)
    ∷ refused (lists ∷ []) (with_list s_region 0 1 2) s_words
    ∷ refused (lists ∷ []) s_region (put 6 (free_info 0 no_page) s_words)
    ∷ refused (lists ∷ []) s_region (put 1 (free_info 0 7) s_words)
    -- list 1 goes on at page 1, which is on list 0; list 2 has a head, of another order or out of range
    ∷ refused (lists ∷ []) s_region (put 2 (free_info 1 1) s_words)
    ∷ refused (lists ∷ []) (with_list s_region 2 6 0) s_words
    ∷ refused (lists ∷ []) (with_list s_region 2 (2 ^ 52 - 1) 0) s_words
    -- free blocks of order 0 at 4 and 5
    ∷ refused (buddies ∷ []) (with_blocks (with_blocks (with_list s_region 0 6 4) 0 4) 1 1)
    (put 1 (free_info 0 4) (put 4 (free_info 0 5) (put 5 (free_info 0 no_page) s_words)))
    -- counts that are off by one, and as large as a count can be
    ∷ refused (totals ∷ []) (with_blocks s_region 0 3) s_words
    ∷ refused (totals ∷ []) (with_blocks s_region 5 (2 ^ 64 - 1)) s_words
    ∷ refused (free ∷ []) (with_list s_region 0 6 1) s_words
    ∷ refused (free ∷ []) (with_list s_region 1 2 (2 ^ 64 - 1)) s_words
    ∷ []
