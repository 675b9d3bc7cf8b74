use Rattle.std.proofs.Common.{◌≡◌, ℕ, ◌<◌, get_or}
use Rattle.rulebook_order.proofs.chain.ChainOrderVectorOrder.no_worse.Given as goal

abbrev pub invariant-loop-place : goal.invariant-loop-place
invariant-loop-place l = (k : ℕ) → k < l.place → get_or l.x (get_or l.self.rules k 0) 0 ≡ get_or l.y (get_or l.self.rules k 0) 0
