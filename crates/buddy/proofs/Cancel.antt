-- A grant and the return of its block at once leave the heap exactly as it was, lists included: the free of any block granted, or the put of
-- a file page.
use Rattle.common.specs.Kit.{ℕ, ◌<◌, ◌≡◌, refl, ap, ◌∙◌, Bool, T}
use Rattle.buddy.specs.Heap.{Kind, file, Heap, SoundHeap}
use Rattle.buddy.specs.Rules.{free_page, put_to}
use Rattle.buddy.specs.Request.{Request, for_file, on, to_free, to_put}
use Rattle.buddy.specs.History.{done, page, counted, Outcome, outcome, call}
use Rattle.buddy.proofs.Tags.{kind-of}
use Rattle.buddy.proofs.Pages.{OutHead, file-page}
use Rattle.buddy.proofs.Calls.{give-out, put-file, Asks, filed, granted-head, Paged, paged}

module _ {M : ℕ → Bool} {n : ℕ} (bound : (p : ℕ) → T (M p) → p < n) (h : Heap) (s : SoundHeap M n h) (g : Heap) (p : ℕ) where
  answered : (x : Request) → call M h x ≡ outcome g (page p) → Paged M n h x g p
  answered x e =
      let same : (call M h x).heap ≡ g = ap (λ (r : Outcome). r.heap) e in
      rw same at (paged bound h s x p (ap (λ (r : Outcome). r.answer) e))

  out : {x : Request} (r : Paged M n h x g p) → OutHead M g.at r.order p
  out r = rw r.head at (granted-head r.asks r.granted)

  freed : {x : Request} → Paged M n h x g p → free_page M g p ≡ h
  unfolding free_page
  freed r = rw (out r).order r.undo

  pub grant-free : (x : Request) → call M h x ≡ outcome g (page p) → call M g (on to_free p) ≡ outcome h done
  grant-free x e = let r = answered x e in give-out g (out r) ∙ rw (freed r)

  filed-only : {o : ℕ} {k : Kind} → Asks for_file o k → k ≡ file 1
  filed-only filed = refl

  pub file-put : call M h for_file ≡ outcome g (page p) → call M g (on to_put p) ≡ outcome h (counted 0)
  unfolding put_to
  file-put e =
      let r = answered for_file e in
      put-file g (file-page r.granted.sound.core.tiled (out r).managed (kind-of (r.granted.on p refl) ∙ filed-only r.asks)) ∙ rw (freed r)
