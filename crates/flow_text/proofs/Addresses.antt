-- An address up to its mark is four numbers with dots between them.
use Rattle.std.proofs.Common.{◌≡◌, ℕ, false, List, [], ◌∷◌, ◌++◌, Some, None, Err, Ok, Option, Result, decimal, refl, sym, ap, ◌∙◌, subst, append_assoc, arith}
use Rattle.std.specs.Char.{is_ascii_digit}
use Rattle.std.specs.Result.{result_ok}
use Rattle.std.specs.Net.Addr.{ipv4_octets}
use Rattle.std.specs.Net.Grammar.{IsDotted, IsIpv4Text, Parses}
use Rattle.std.specs.Net.Text.{dotted_text}
use Rattle.std.specs.declared.net.ipv4_addr.Ipv4Addr.{Ipv4Addr}
use Rattle.std.proofs.lemmas.List.Folds.{list_all-append}
use Rattle.std.proofs.lemmas.Option.{option_and_then_some}
use Rattle.numerals.specs.Parts.{split, part, and_then}
use Rattle.numerals.proofs.Cuts.{Clear, decimal_clear, split_back, split_exact, part_back, part_exact}
use Rattle.flow_text.specs.FlowText.{address}

-- number by number
dotted_groups : (mark a b c d : ℕ) (rest : List ℕ) → dotted_text a b c d ++ (mark ∷ rest) ≡ decimal a ++ (46 ∷ (decimal b ++ (46 ∷ (decimal c ++ (46 ∷ (decimal d ++ (mark ∷ rest)))))))
dotted_groups mark a b c d rest = simp append_assoc

-- an address that is written is read
pub address_back : (mark : ℕ) (text octets rest : List ℕ) → IsDotted text octets → is_ascii_digit mark ≡ false → address mark (text ++ (mark ∷ rest)) ≡ Some (octets, rest)
address_back mark text octets rest h m =
    rw (h.spelled, h.value, dotted_groups mark h.a h.b h.c h.d rest, part_back 256 46 h.a _ h.fit.0 (omega arith) refl, part_back 256 46 h.b _ h.fit.1 (omega arith) refl, part_back 256 46 h.c _ h.fit.2 (omega arith) refl, part_back 256 mark h.d rest h.fit.3 (omega arith) m) refl

-- what an address is read from
pub record Address (mark : ℕ) (s : List ℕ) (x : List ℕ × List ℕ) : Type 0 where
  pub text : List ℕ
  pub dotted : IsDotted text x.0
  pub whole : text ++ (mark ∷ x.1) ≡ s

pub address_exact : (mark : ℕ) (s : List ℕ) (x : List ℕ × List ℕ) → address mark s ≡ Some x → Address mark s x
address_exact mark s x e =
    option_and_then_some _ (part 256 46 s) x e (λ p hp f.
    option_and_then_some _ (part 256 46 p.1) x f (λ q hq g.
    option_and_then_some _ (part 256 46 q.1) x g (λ r hr i.
    option_and_then_some _ (part 256 mark r.1) x i (λ t ht j.
    let a = part_exact 256 46 s p.0 p.1 hp in
    let b = part_exact 256 46 p.1 q.0 q.1 hq in
    let c = part_exact 256 46 q.1 r.0 r.1 hr in
    let d = part_exact 256 mark r.1 t.0 t.1 ht in
    let is : (p.0 ∷ q.0 ∷ r.0 ∷ t.0 ∷ [], t.1) ≡ x = cc in
    subst (Address mark s) is (record {
      text = dotted_text p.0 q.0 r.0 t.0;
      dotted = record { a = p.0; b = q.0; c = r.0; d = t.0; fit = (a.0, b.0, c.0, d.0); value = refl; spelled = refl };
      whole = rw (dotted_groups mark p.0 q.0 r.0 t.0 t.1, d.1, c.1, b.1) a.1;
    })))))

dotted_clear : (text octets : List ℕ) → IsDotted text octets → Clear 58 text
dotted_clear text octets h =
    let a = decimal_clear 58 h.a (omega (arith, h.fit.0)) refl in
    let b = decimal_clear 58 h.b (omega (arith, h.fit.1)) refl in
    let c = decimal_clear 58 h.c (omega (arith, h.fit.2)) refl in
    let d = decimal_clear 58 h.d (omega (arith, h.fit.3)) refl in
    rw h.spelled (simp (list_all-append, a, b, c, d))

-- the address is what stands before the first colon
address_split : (s : List ℕ) (x : List ℕ × List ℕ) → address 58 s ≡ Some x → (text : List ℕ) × IsDotted text x.0 × (split 58 s ≡ Some (text, x.1))
address_split s x e =
    let h = address_exact 58 s x e in
    (h.text, h.dotted, ap (split 58) (sym h.whole) ∙ split_back 58 h.text x.1 (dotted_clear h.text x.0 h.dotted))

no_address : (s : List ℕ) (o : Option (List ℕ × List ℕ)) → address 58 s ≡ o → ((text : List ℕ) (x : List ℕ × List ℕ) → split 58 s ≡ Some (text, x.1) → ¬ (IsDotted text x.0)) → address 58 s ≡ None
no_address s None e h = e
no_address s (Some x) e h = let p = address_split s x e in absurd (h p.0 x p.2 p.1)

-- with no colon there is none
pub address_none : (s : List ℕ) → split 58 s ≡ None → address 58 s ≡ None
address_none s e = no_address s (address 58 s) refl (λ text x i h. absurd (grind (arith, i)))

-- and else it is what the library parses there
pub address_parsed : {E : Type 0} (s text rest : List ℕ) (r : Result Ipv4Addr E) → split 58 s ≡ Some (text, rest) → Parses IsIpv4Text text r → address 58 s ≡ and_then (result_ok r) (λ a. Some (ipv4_octets a, rest))
address_parsed s text rest (Ok a) e h = ap (address 58) (sym (split_exact 58 s text rest e)) ∙ address_back 58 text (ipv4_octets a) rest h refl
address_parsed s text rest (Err z) e h =
    no_address s (address 58 s) refl (λ t x i d.
    let same : t ≡ text = grind (arith, i) in
    h (record { octets = x.0 }) (subst (λ (v : List ℕ). IsDotted v x.0) same d))
