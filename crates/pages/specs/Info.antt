-- What a page is, by short names.
use Rattle.std.specs.Prelude.{ℕ}
use Rattle.words.specs.declared.word.PageInfo.{PageInfo}
use Rattle.words.specs.declared.word.PageInfo.TheVariants.{Free, Allocated, Slab, Compound, File, Reserved}

-- Free of order o, with the next page on its list
abbrev pub free_info : ℕ → ℕ → PageInfo
free_info o next = Free (record { next_page = next; order = o })

abbrev pub allocated_info : ℕ → PageInfo
allocated_info o = Allocated (record { order = o })

abbrev pub slab_info : ℕ → PageInfo
slab_info i = Slab (record { item_size = i })

abbrev pub compound_info : ℕ → PageInfo
compound_info o = Compound (record { order = o })

abbrev pub file_info : ℕ → PageInfo
file_info n = File (record { ref_count = n })

abbrev pub reserved_info : PageInfo
reserved_info = Reserved (record {})
