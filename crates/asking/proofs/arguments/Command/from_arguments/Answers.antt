use Rattle.std.proofs.Common.{◌≡◌, ℕ, List, [], ◌∷◌, map, length, get_or, string_bytes, codes, ap, arith, rules, ◌∙◌, sym}
use Rattle.asking.proofs.arguments.Command.from_arguments.Goals as goal

-- a list of one element
one : {X : Type 0} (f : X → List ℕ) (xs : List X) (d : X) (bytes : List ℕ) → length xs ≡ 1 → f (get_or xs 0 d) ≡ bytes → map f xs ≡ bytes ∷ []
one f [] d bytes short same = absurd (omega arith)
one f (x ∷ []) d bytes short same = ap (λ l. l ∷ []) same
one f (x ∷ y ∷ ys) d bytes short same = absurd (omega arith)

pub returns-in-len1 : goal.returns-in-len1
returns-in-len1 c =
    let word : string_bytes c.only-item.result ≡ codes "--help" = search rules in
    one string_bytes c.args.arguments.now c.only-item.result (codes "--help") (omega arith) (ap string_bytes (sym c.only-item.is) ∙ word)
