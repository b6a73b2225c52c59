-- The kit's names that most proofs use, handed on, so that a file brings them in with one line. (Definitions bring them in from the kit itself.)
pub use Rattle.std.specs.Prelude.{ℕ, zero, suc, ◌+◌, ◌-◌, ◌*◌, ◌/◌, ◌%◌, ◌^◌, ◌≤◌, ◌<◌, ◌≡◌, refl, ◌≢◌, ◌↔◌, ◌⊎◌, Bool, true, false, cond, not, ◌&&◌, ◌||◌, T, eqb, leb, ltb, Option, Some, None, length, get_or, set, take, drop, replicate}
pub use Rattle.std.proofs.Common.{sym, ap, ◌∙◌, subst, inl, inr, ⊎_elim, true≢false, eqb→eq, length-set, length-drop, drop_of_length-le, drop-cons, get_or-set_same, get_or-set_other, take_all, ext_get_or, pow_pos, pow_mono, le_refl, zero-add, suc-add, add-zero, pow-suc, add-one, arith, rules, eq-eqb, ne_eqb, lt-ltb, le-ltb, le-leb, eqb-true, ltb-true, ltb-false, leb-true, leb-false}
pub use Rattle.std.proofs.Math.Path.{fun_ext}
pub use Rattle.std.proofs.Math.Logic.{by_cases}
pub use Rattle.std.proofs.Math.Bool.{and-true, and-false, and_assoc}
pub use Rattle.std.proofs.lemmas.Bool.{false≢true, lt-leb, eqb-false, not-true, not-false}
pub use mathlib.Core.List.Memᴰ.{cases_cons as mem-cases}
pub use mathlib.Core.List.Memᴰ.{head as mem-head}
pub use mathlib.Core.List.Memᴰ.{not-nil as mem-not_nil}
pub use mathlib.Core.List.Memᴰ.{tail as mem-tail}
pub use mathlib.Core.List.{List, [], ◌∷◌, ◌++◌, map, Memᴰ}
pub use Rattle.std.proofs.lemmas.List.{length-map, get_or-replicate}
pub use Rattle.std.proofs.Math.ListN.{get_or-eq_default}
pub use Rattle.std.proofs.Math.Decide.{ℕ_discrete, dec_lt, dec_le}
