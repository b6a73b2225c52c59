-- What the audit's answer says: where it is no refusal, a call does what is promised of sound record and words; what it refuses is handed on.
use Rattle.common.specs.Kit.{ℕ, ◌≡◌, ap, true, false, List, [], replicate, arith}
use Rattle.std.specs.Prelude.{Ok, Err}
use Rattle.common.proofs.Tests.{by-test}
use Rattle.buddy.specs.Request.{Request}
use Rattle.buddy.proofs.Refill.{never}
use Rattle.region.specs.declared.HeapMemoryRegion.{HeapMemoryRegion}
use Rattle.audit.specs.Check.{sound_b}
use Rattle.sound_calls.specs.Answer.{ok, refusal}
use Rattle.sound_calls.specs.declared.Answer.{Answer}
use Rattle.sound_calls.specs.declared.AllocError.{AllocError}
use Rattle.sound_calls.proofs.Answers.{dones, told-one}
use Rattle.sound_calls.specs.Promise.{kept, does, looks_up}
use Rattle.heap.specs.Promise.{damaged, audit_promise, promise, lookup_promise, report_promise}

module _ (r : HeapMemoryRegion) (ws : List ℕ) where
  passes : ok [] ≡ audit_promise r ws → sound_b r ws ≡ true
  unfolding audit_promise
  passes told = by-test (sound_b r ws) (λ t. t) (λ t.
      let z : ◌≡◌ {A = ℕ} 0 4 = ap (λ (a : Answer). a.number) (rw t at told) in
      absurd (omega arith))

  refuses : (e : AllocError) → refusal e ≡ audit_promise r ws → (sound_b r ws ≡ false) × (refusal e ≡ damaged r ws)
  unfolding audit_promise
  refuses e told = by-test (sound_b r ws)
      (λ t. let z = told-one dones (Err e) (Ok tt) (rw t at told) in never (cc))
      (λ t. (t, rw t at told))

  pub asks : (x : Request) → ok [] ≡ audit_promise r ws → does r ws x ≡ promise r ws x
  unfolding promise
  asks x told = rw (passes told)

  pub hands-on : (x : Request) (e : AllocError) → refusal e ≡ audit_promise r ws → kept r ws (refusal e) ≡ promise r ws x
  unfolding promise
  hands-on x e told = let no = refuses e told in rw (no.0, no.1)

  pub looks : (a : ℕ) → ok [] ≡ audit_promise r ws → looks_up r ws a ≡ lookup_promise r ws a
  unfolding lookup_promise
  looks a told = rw (passes told)

  pub looks-no : (a : ℕ) (e : AllocError) → refusal e ≡ audit_promise r ws → refusal e ≡ lookup_promise r ws a
  unfolding lookup_promise
  looks-no a e told = let no = refuses e told in rw no.0 no.1

  pub reports : ok [] ≡ audit_promise r ws → report_promise r ws ≡ record { answer = ok []; total = r.nr_pages; free = r.free_pages }
  unfolding report_promise
  reports told = rw (passes told)

  pub reports-no : (e : AllocError) → refusal e ≡ audit_promise r ws
      → report_promise r ws ≡ record { answer = refusal e; total = replicate 6 0; free = replicate 6 0 }
  unfolding report_promise
  reports-no e told = let no = refuses e told in rw (no.0, no.1)

pub ruleset heard = (asks, hands-on, looks, looks-no, reports, reports-no)
