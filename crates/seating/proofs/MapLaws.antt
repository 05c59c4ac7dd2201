-- Put and drop change the map read off the slots as a map is changed.
use Rattle.std.proofs.Common.{◌≡◌, ℕ, ◌≢◌, List, Some, None, sym, refl, ◌∙◌, inl, inr}
use Rattle.std.specs.Map.{update}
use Rattle.std.specs.Str.{bytes_eq}
use Rattle.std.proofs.lemmas.Slice.Eq.{bytes_eq-Decides}
use Rattle.std.proofs.lemmas.Map.{update_same, update_other}
use Rattle.std.proofs.lemmas.Bool.{cases_Bool, both_ways}
use Rattle.seating.specs.Layouts.{Key, Value, Content, Layout}
use Rattle.seating.specs.Maps.{Same, Known, PutMapLaw, DropMapLaw}
use Rattle.seating.specs.Slots.{Sits, Stored, value_of}
use Rattle.seating.specs.Steps.{Missing}
use Rattle.seating.specs.Steps.PutAnswer.{seated, renewed, too_short, full}
use Rattle.seating.specs.Steps.DropAnswer.{dropped, too_short as lent_short, not_held}
use Rattle.seating.specs.Tables.{Lawful}
use Rattle.seating.proofs.Changes.{Becomes, Loses, seated_becomes, renewed_becomes, dropped_loses}
use Rattle.seating.proofs.Keeping.{missing_not_held, put_sound_lem, drop_sound_lem}
use Rattle.seating.proofs.Values.{option, value_stored, value_none, absent_value, stored_value}

-- a map with one value for each key is told by what it stores
told : (xs ys : List Content) (j : Key) → ((u : Value) → value_of xs j ≡ Some u → value_of ys j ≡ Some u) → (value_of xs j ≡ None → value_of ys j ≡ None) → value_of ys j ≡ value_of xs j
told xs ys j some none = elim (option (value_of xs j)) [ inl e ↦ none e ∙ sym e | inr (u, e) ↦ some u e ∙ sym e ]

module _ (L : Layout) (xs ys : List Content) (k : Key) (law' : Lawful L ys) where
  -- keys other than k keep their value
  others : (j : Key) → k ≢ j → ((u : Value) → Stored xs j u → Stored ys j u) → ((u : Value) → Stored ys j u → Stored xs j u) → value_of ys j ≡ value_of xs j
  others j n into from = told xs ys j
      (λ u e. stored_value L ys law' j u (into u (value_stored xs j u e)))
      (λ e. absent_value ys j (λ (i, (u, p)). (let s = from u (i, p) in value_none xs j e s.0 (u, s.1))))

  pub becomes_maps : (v : Value) → Becomes xs ys k v → Same (update bytes_eq (value_of xs) k (Some v)) (value_of ys)
  becomes_maps v b j = elim (cases_Bool (bytes_eq k j)) [
    | inl e ↦ stored_value L ys law' j v (rw (sym ((bytes_eq-Decides k j).0 e)) ((b k v).1 (inr refl))) ∙ sym (update_same bytes_eq (value_of xs) k (Some v) j e)
    | inr e ↦ (let n : k ≢ j = λ q. both_ways _ e ((bytes_eq-Decides k j).1 q) in
        others j n (λ u s. (b j u).1 (inl (s, n)))
        (λ u s. elim ((b j u).0 s) [ inl p ↦ p.0 | inr q ↦ absurd (n (cc)) ])
        ∙ sym (update_other bytes_eq (value_of xs) k (Some v) j e))
  ]

  pub loses_maps : Loses xs ys k → Same (update bytes_eq (value_of xs) k None) (value_of ys)
  loses_maps b j = elim (cases_Bool (bytes_eq k j)) [
    | inl e ↦ absent_value ys j (λ (i, (u, p)). ((b j u).0 (i, p)).1 ((bytes_eq-Decides k j).0 e)) ∙ sym (update_same bytes_eq (value_of xs) k None j e)
    | inr e ↦ (let n : k ≢ j = λ q. both_ways _ e ((bytes_eq-Decides k j).1 q) in
        others j n (λ u s. (b j u).1 (s, n)) (λ u s. ((b j u).0 s).0)
        ∙ sym (update_other bytes_eq (value_of xs) k None j e))
  ]

none_yet : (L : Layout) (xs : List Content) (k : Key) → Lawful L xs → Missing L xs k → value_of xs k ≡ None
none_yet L xs k law miss = absent_value xs k (missing_not_held L xs k law miss)

known : (L : Layout) (xs : List Content) (k : Key) (i : ℕ) → Lawful L xs → Sits xs k i → Known (value_of xs) k
known L xs k i law (v, e) = (v, stored_value L xs law k v (i, e))

same_slots : (xs ys : List Content) → ys ≡ xs → Same (value_of xs) (value_of ys)
same_slots xs ys e j = rw e refl

pub put_map_law_lem : PutMapLaw
put_map_law_lem L xs k v was (seated m s) ys is (room, miss, way, n, e) g =
    let r = seated_becomes L xs ys k v m g.law miss way in
    (none_yet L xs k g.law miss, becomes_maps L xs ys k r.0 v r.1)
put_map_law_lem L xs k v was renewed ys is (room, (i, f, e), b) g =
    let law : Lawful L ys = (put_sound_lem L xs k v was renewed ys is (room, (i, f, e), b) g).law in
    let r : Becomes xs ys k v = rw e (renewed_becomes L xs g.law k i f.1 v) in
    (known L xs k i g.law f.1, becomes_maps L xs ys k law v r)
put_map_law_lem L xs k v was too_short ys is (n, e, b) g = same_slots xs ys e
put_map_law_lem L xs k v was (full c) ys is (room, miss, st, e, n, b) g = (none_yet L xs k g.law miss, same_slots xs ys e)

pub drop_map_law_lem : DropMapLaw
drop_map_law_lem L xs k was (dropped m s) ys is (room, (i, f, way), n, b) g =
    let law : Lawful L ys = (drop_sound_lem L xs k was (dropped m s) ys is (room, (i, f, way), n, b) g).law in
    (known L xs k i g.law f.1, loses_maps L xs ys k law (dropped_loses L xs ys k i m g.law f.1 way))
drop_map_law_lem L xs k was lent_short ys is (n, e, b) g = same_slots xs ys e
drop_map_law_lem L xs k was not_held ys is (room, miss, e, b) g = (none_yet L xs k g.law miss, same_slots xs ys e)
