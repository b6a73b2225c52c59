-- Set-up: the ways through its checks, and that the code and the promise agree. Its numbers are those of a region exactly when no check refuses.
use Rattle.common.specs.Kit.{ℕ, ◌+◌, ◌-◌, ◌*◌, ◌%◌, ◌^◌, ◌≡◌, ap, ◌≢◌, false, cond, ◌&&◌, List, [], eqb, leb, length, arith, ne_eqb, eqb-true, leb-true}
use Rattle.common.proofs.Tests.{by-test, and-true}
use Rattle.words.specs.declared.place.VirtAddr.{VirtAddr}
use Rattle.buddy.specs.Rules.{set_up}
use Rattle.buddy.proofs.Refill.{never}
use Rattle.region.specs.Layout.{max_pages, alloc_pages, bare, Limits}
use Rattle.setup.specs.Steps.{init_memory}
use Rattle.setup.proofs.Init.{init-image}
use Rattle.sound_calls.specs.Answer.{ok, no, refusal, Effect}
use Rattle.sound_calls.specs.declared.Answer.{Answer}
use Rattle.sound_calls.specs.Promise.{kept, became}
use Rattle.sound_calls.specs.Code.{leaves}
use Rattle.sound_calls.specs.declared.AllocError.{AllocError}
use Rattle.std.specs.Prelude.{Ok, Err}
use Rattle.sound_calls.proofs.Answers.{dones, told-one}
use Rattle.heap.specs.Promise.{empty_region, set_up_answer, set_up_promise}

module _ (start n a words : ℕ) where
  pub set-up-outcomes : (P : Answer → Type 0) → (Limits start n a words → P (ok [])) → ((k : ℕ) → k ≢ 0 → P (no k [])) → P (set_up_answer start n a words)
  unfolding set_up_answer
  set-up-outcomes P sets refuses =
      by-test (leb 1 n && leb n max_pages && eqb words n)
      (λ t. rw t (by-test (eqb (start % 4096) 0 && leb (start + 4096 * n) (2 ^ 64 - 1))
      (λ u. rw u (by-test (leb a (alloc_pages n))
      (λ v.
      let x = and-true (leb 1 n && leb n max_pages) (eqb words n) t in
      let y = and-true (leb 1 n) (leb n max_pages) x.0 in
      let z = and-true (eqb (start % 4096) 0) (leb (start + 4096 * n) (2 ^ 64 - 1)) u in
      rw v (sets (record {
        some = leb-true 1 n y.0;
        most = leb-true n max_pages y.1;
        long = eqb-true words n x.1;
        aligned = eqb-true (start % 4096) 0 z.0;
        ends = leb-true (start + 4096 * n) (2 ^ 64 - 1) z.1;
        boot = leb-true a (alloc_pages n) v;
      })))
      (λ v. rw v (refuses 3 (omega arith)))))
      (λ u. rw u (refuses 2 (omega arith)))))
      (λ t. rw t (refuses 1 (omega arith)))

  pub set-up-limits : set_up_answer start n a words ≡ ok [] → Limits start n a words
  set-up-limits = set-up-outcomes (λ t. t ≡ ok [] → Limits start n a words) (λ l _. l) (λ k some e. absurd (some (ap (λ (t : Answer). t.number) e)))

  set-up-refused : (e : AllocError) → set_up_answer start n a words ≡ refusal e → eqb (set_up_answer start n a words).number 0 ≡ false
  set-up-refused e = set-up-outcomes (λ t. t ≡ refusal e → eqb t.number 0 ≡ false)
      (λ _ x. let y = told-one dones (Ok tt) (Err e) x in never (cc))
      (λ k some _. ne_eqb k 0 some)

module _ (start : VirtAddr) (n a : ℕ) (ws : List ℕ) where
  pub sets-code : set_up_answer start.0 n a (length ws) ≡ ok [] → leaves (ok []) (init_memory start n a ws) ≡ set_up_promise start n a ws
  unfolding set_up_promise
  sets-code e = rw e (ap (leaves (ok [])) (init-image start n a ws (set-up-limits start.0 n a (length ws) e)).leaves)

  pub refuses-code : (e : AllocError) → set_up_answer start.0 n a (length ws) ≡ refusal e → kept empty_region ws (refusal e) ≡ set_up_promise start n a ws
  unfolding set_up_promise
  refuses-code e x = rw (set-up-refused start.0 n a (length ws) e x, x)

  -- the ways through the promise
  pub set-up-results : (P : Effect → Type 0)
      → (Limits start.0 n a (length ws) → P (became (bare start n a) (set_up a (alloc_pages n)).heap (ok [])))
      → ((k : ℕ) → k ≢ 0 → P (kept empty_region ws (no k []))) → P (set_up_promise start n a ws)
  unfolding set_up_promise
  set-up-results P sets refuses = set-up-outcomes start.0 n a (length ws)
      (λ t. P (cond (eqb t.number 0) (became (bare start n a) (set_up a (alloc_pages n)).heap t) (kept empty_region ws t)))
      sets (λ k some. rw (ne_eqb k 0 some) (refuses k some))
