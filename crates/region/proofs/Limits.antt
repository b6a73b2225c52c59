-- The page limit is at most 2^20: but for `pages_good`, which compares with it, no proof looks at the number.
use Rattle.common.specs.Kit.{ℕ, ◌^◌, ◌≤◌, ◌≡◌, true, ◌&&◌, leb, arith, leb-true}
use Rattle.common.proofs.Tests.{and-true}
use Rattle.region.specs.Layout.{max_pages}

pub pages-small : (n : ℕ) → n ≤ max_pages → n ≤ 2 ^ 20
unfolding max_pages
pages-small n l = omega arith

-- so many that `pages_good` says yes
pub good-small : (n : ℕ) → (leb 1 n && leb n max_pages) ≡ true → n ≤ 2 ^ 20
good-small n e = pages-small n (leb-true n max_pages (and-true (leb 1 n) _ e).1)
