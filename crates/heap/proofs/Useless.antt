-- Useless heaps are refused: no function that keeps its promise always refuses set-up, always answers 6, always grants one page, changes nothing
-- by a free or a put, invents its counts, or says Damaged of everything. Each fails on region R, by computation. These are results.
use Rattle.common.specs.Kit.{ℕ, ◌≡◌, sym, ap, ◌∙◌, ◌≢◌, List, [], ◌∷◌, get_or, arith}
use Rattle.words.specs.declared.place.VirtAddr.{VirtAddr}
use Rattle.region.specs.declared.HeapMemoryRegion.{HeapMemoryRegion}
use Rattle.sound_calls.specs.Answer.{ok, no, Effect}
use Rattle.buddy.specs.Request.{for_block, on, to_free, to_put}
use Rattle.std.specs.Prelude.{Result, unwrap_or}
use Rattle.sound_calls.specs.declared.AllocError.{AllocError}
use Rattle.sound_calls.specs.declared.Answer.{Answer}
use Rattle.heap.specs.Promise.{set_up_promise, promise, audit_promise, Reported, reported, report_promise}
use Rattle.heap.specs.declared.Report.{Report}
use Rattle.heap.proofs.Cases.{page, R, then, one, filed, on-R}

-- a set-up that always refuses
pub not-always-refused : (f : VirtAddr → ℕ → ℕ → List ℕ → Effect) → ((s : VirtAddr) (n a : ℕ) (ws : List ℕ) → f s n a ws ≡ set_up_promise s n a ws)
    → ((s : VirtAddr) (n a : ℕ) (ws : List ℕ) → (f s n a ws).answer.number ≢ 0) → ⊥
unfolding R
not-always-refused f keeps useless = useless _ 64 3 _ (ap (λ (x : Effect). x.answer.number) (keeps _ 64 3 _) ∙ on-R.sets)

-- a request that always answers 6, and one that always grants one page
module _ (f : HeapMemoryRegion → List ℕ → ℕ → Effect) (keeps : (r : HeapMemoryRegion) (ws : List ℕ) (o : ℕ) → f r ws o ≡ promise r ws (for_block o)) where
  tells : (x : Effect) → (f x.region x.words 1).answer ≡ (then x (for_block 1)).answer
  unfolding then
  tells x = ap (λ (y : Effect). y.answer) (keeps x.region x.words 1)

  pub not-always-six : ((r : HeapMemoryRegion) (ws : List ℕ) (o : ℕ) → (f r ws o).answer ≡ no 6 []) → ⊥
  unfolding one
  not-always-six useless =
      let z : ◌≡◌ {A = ℕ} 6 0 = ap (λ (t : Answer). t.number) (sym (useless R.region R.words 1) ∙ tells R ∙ on-R.first-grant) in
      omega arith

  pub not-one-page : (a : ℕ) → ((r : HeapMemoryRegion) (ws : List ℕ) (o : ℕ) → (f r ws o).answer ≡ ok (a ∷ [])) → ⊥
  unfolding one page
  not-one-page a useless =
      let first = sym (useless R.region R.words 1) ∙ tells R ∙ on-R.first-grant in
      let second = sym (useless one.region one.words 1) ∙ tells one ∙ on-R.second-grant in
      let z : ◌≡◌ {A = ℕ} (page 60) (page 56) = ap (λ (t : Answer). unwrap_or t.value 0) (sym first ∙ second) in
      omega arith

-- a call at an address that changes no word
abbrev NotIdle : (HeapMemoryRegion → List ℕ → ℕ → Effect) → Type 0
NotIdle p = (f : HeapMemoryRegion → List ℕ → ℕ → Effect) → ((r : HeapMemoryRegion) (ws : List ℕ) (a : ℕ) → f r ws a ≡ p r ws a)
    → ((r : HeapMemoryRegion) (ws : List ℕ) (a : ℕ) → (f r ws a).words ≡ ws) → ⊥

-- it keeps no promise by which the word of some page q changes
not-idle : (p : HeapMemoryRegion → List ℕ → ℕ → Effect) (x : Effect) (a q : ℕ)
    → get_or x.words q 0 ≢ get_or (p x.region x.words a).words q 0 → NotIdle p
not-idle p x a q changes f keeps useless = changes (ap (λ (ws : List ℕ). get_or ws q 0)
    (sym (useless x.region x.words a) ∙ ap (λ (y : Effect). y.words) (keeps x.region x.words a)))

pub not-idle-free : NotIdle (λ r ws a. promise r ws (on to_free a))
unfolding then
not-idle-free = not-idle (λ r ws a. promise r ws (on to_free a)) one (page 60) 60 (λ e. omega (arith, on-R.out, on-R.freed))

pub not-idle-put : NotIdle (λ r ws a. promise r ws (on to_put a))
unfolding then
not-idle-put = not-idle (λ r ws a. promise r ws (on to_put a)) filed (page 62) 62 (λ e. omega (arith, on-R.file-out, on-R.put_back))

-- a report whose counts do not come from the region
pub not-invented : (f : HeapMemoryRegion → List ℕ → Result Report AllocError) → ((r : HeapMemoryRegion) (ws : List ℕ) → reported (f r ws) ≡ report_promise r ws)
    → (counts : List ℕ) → ((r : HeapMemoryRegion) (ws : List ℕ) → (reported (f r ws)).free ≡ counts) → ⊥
not-invented f keeps counts useless =
    let at-R = sym (useless R.region R.words) ∙ ap (λ (x : Reported). x.free) (keeps _ _) in
    let after = sym (useless one.region one.words) ∙ ap (λ (x : Reported). x.free) (keeps _ _) in
    let z : ◌≡◌ {A = ℕ} 1 0 = sym on-R.counts ∙ ap (λ (l : List ℕ). get_or l 1 0) (sym at-R ∙ after) ∙ on-R.counts-after in
    omega arith

-- an audit that says Damaged of everything
pub not-always-damaged : (f : HeapMemoryRegion → List ℕ → Answer) → ((r : HeapMemoryRegion) (ws : List ℕ) → f r ws ≡ audit_promise r ws)
    → ((r : HeapMemoryRegion) (ws : List ℕ) → f r ws ≡ no 4 []) → ⊥
not-always-damaged f keeps useless =
    let z : ◌≡◌ {A = ℕ} 4 0 = ap (λ (t : Answer). t.number) (sym (useless _ _) ∙ keeps R.region R.words ∙ on-R.sound) in
    omega arith
