-- The calls for C and Rust: two results that one promise allows are equal, number and lent memory.
use mathlib.Core.Path.{◌≡◌, sym, ◌∙◌}
use mathlib.Core.List.{List}
use Prim.Native.Nat.{ℕ}
use Rattle.checker.specs.Refusal.{refusal_with}
use Rattle.tighten.specs.Promise.{Tightening}
use Rattle.tighten.proofs.Once.{tighten_once}
use Rattle.solve.specs.Promise.{Solving}
use Rattle.solve.proofs.Once.{solve_once}
use Rattle.explain.specs.Promise.{Explaining}
use Rattle.explain.proofs.Once.{explain_once}
use Rattle.cause.specs.Promise.{Causing}
use Rattle.cause.proofs.Once.{cause_once}
use Rattle.blocks.specs.Edition.{edition1}
use Rattle.blocks.specs.Promise.{Reads, Writes}
use Rattle.blocks.proofs.Promise.{read_once, write_once}
use Rattle.report.specs.Promise.{Advises}
use Rattle.report.proofs.Once.{advise_once}
use Rattle.packing.specs.Packed.{Returns, checked, tightened, solved, explained, caused, read, written, advised}
use Rattle.packing.proofs.Apart.{returned_same}

pub check_one : (limit : ℕ) (ws bs : List ℕ) {r s : ℕ} → Returns (λ x. x ≡ refusal_with limit ws bs) checked r
    → Returns (λ x. x ≡ refusal_with limit ws bs) checked s → r ≡ s
check_one limit ws bs a b = returned_same a b (a.promised ∙ sym b.promised)

pub tighten_one : {ws bs l us vs m n : List ℕ} {r s : ℕ} → Returns (λ x. Tightening ws bs l x us m) tightened r
    → Returns (λ x. Tightening ws bs l x vs n) tightened s → (r ≡ s) × (us ≡ vs) × (m ≡ n)
tighten_one a b = let o = tighten_once a.promised b.promised in (returned_same a b o.0, o.1, o.2)

pub solve_one : {limit : ℕ} {ws bs m l a b k n : List ℕ} {r s : ℕ} → Returns (λ x. Solving limit ws bs m l x a k) solved r
    → Returns (λ x. Solving limit ws bs m l x b n) solved s → (r ≡ s) × (a ≡ b) × (k ≡ n)
solve_one a b = let o = solve_once a.promised b.promised in (returned_same a b o.0, o.1, o.2)

pub explain_one : {ws bs l m k : List ℕ} {i p j : ℕ} {r s : ℕ} → Returns (λ x. Explaining ws bs i p j l x m) explained r
    → Returns (λ x. Explaining ws bs i p j l x k) explained s → (r ≡ s) × (m ≡ k)
explain_one a b = let o = explain_once a.promised b.promised in (returned_same a b o.0, o.1)

pub cause_one : {limit : ℕ} {ws bs m l a b k n : List ℕ} {r s : ℕ} → Returns (λ x. Causing limit ws bs m l x a k) caused r
    → Returns (λ x. Causing limit ws bs m l x b n) caused s → (r ≡ s) × (a ≡ b) × (k ≡ n)
cause_one a b = let o = cause_once a.promised b.promised in (returned_same a b o.0, o.1, o.2)

pub read_one : {f a b y z y' z' : List ℕ} {r s : ℕ} → Returns (Reads edition1 f a b y z) read r → Returns (Reads edition1 f a b y' z') read s
    → (r ≡ s) × (y ≡ y') × (z ≡ z')
read_one a b = let o = read_once a.promised b.promised in (returned_same a b o.0, o.1, o.2)

pub write_one : {limit : ℕ} {ws bs f g g' : List ℕ} {r s : ℕ} → Returns (Writes edition1 limit ws bs f g) written r
    → Returns (Writes edition1 limit ws bs f g') written s → (r ≡ s) × (g ≡ g')
write_one a b = let o = write_once a.promised b.promised in (returned_same a b o.0, o.1)

pub advise_one : {f l k a b m n : List ℕ} {r s : ℕ} → Returns (λ x. Advises f l k x a m) advised r → Returns (λ x. Advises f l k x b n) advised s
    → (r ≡ s) × (a ≡ b) × (m ≡ n)
advise_one a b = let o = advise_once a.promised b.promised in (returned_same a b o.0, o.1, o.2)
