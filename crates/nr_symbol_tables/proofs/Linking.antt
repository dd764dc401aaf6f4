-- Lemmas on chains: each entry of a row has a kind, and is linked to the last of its kind before it.
use Rattle.std.proofs.Common.{◌≡◌, ◌≢◌, ℕ, zero, suc, ◌+◌, ◌-◌, ◌<◌, ◌≤◌, List, [], ◌∷◌, ◌++◌, length, replicate, refl, ap, sym, subst, ◌∙◌, inl, inr, eqb, arith, length-append}
use Rattle.std.proofs.Math.ListN.{set}
use Rattle.std.proofs.lemmas.Bool.{cases_eq, cases_lt, cases_order, cond-true, cond-false, ne_eqb}
use Rattle.std.proofs.lemmas.List.{length-set, get_or-set_same, get_or-set_other, get_or_append_left, set-get_or}
use Rattle.nr_symbol_tables.specs.Rows.{place_in, IsLastOf, AreChains, IsLink, led, begun}
use Rattle.nr_symbol_tables.proofs.Chaining.{set_at_case, push_at_case, last_at, zeros}

some_of : (n : ℕ) → n ≢ 0 → 0 < n
some_of zero h = absurd (h refl)
some_of (suc n) h = omega arith

pub led_first : (over to : ℕ) (es : List ℕ) → over ≡ 0 → led over to es ≡ es
led_first over to es none = cond-true (eqb over 0) es (set es (over - 1) to) (ap (λ n. eqb n 0) none)

pub led_next : (over to : ℕ) (es : List ℕ) → over ≢ 0 → led over to es ≡ set es (over - 1) to
led_next over to es some = cond-false (eqb over 0) es (set es (over - 1) to) (ne_eqb over 0 some)

pub begun_first : (over c to : ℕ) (ls : List ℕ) → over ≡ 0 → begun over c to ls ≡ set ls c to
begun_first over c to ls none = cond-true (eqb over 0) (set ls c to) ls (ap (λ n. eqb n 0) none)

pub begun_next : (over c to : ℕ) (ls : List ℕ) → over ≢ 0 → begun over c to ls ≡ ls
begun_next over c to ls some = cond-false (eqb over 0) (set ls c to) ls (ne_eqb over 0 some)

last_along : (ks new : List ℕ) (c k a : ℕ) → ((j : ℕ) → j < k → place_in new j ≡ place_in ks j) → IsLastOf ks c k a → IsLastOf new c k a
last_along ks new c k a same l =
    let within = l.within in
    record {
      within = within;
      is = λ some. same (a - 1) (omega arith) ∙ l.is some;
      last = λ j low high is. l.last j low high (sym (same j high) ∙ is);
    }

-- ---- no entries

pub chains_none : (n : ℕ) → AreChains [] [] (replicate n 0)
chains_none n = record {
  first = λ c few. (let none = zeros n c in record { within = omega arith; is = λ some. absurd (omega arith); last = λ j low high is. absurd (omega arith) });
  next = λ k c below is few. absurd (omega arith);
}

-- ---- one entry more, or fewer

module _ (ks : List ℕ) (c : ℕ) where
  prefix : (j : ℕ) → j < length ks → place_in (ks ++ c ∷ []) j ≡ place_in ks j
  prefix j below = get_or_append_left ks (c ∷ []) 0 j below

  end : place_in (ks ++ c ∷ []) (length ks) ≡ c
  end = last_at ks c (length ks) refl

  longer : length (ks ++ c ∷ []) ≡ length ks + 1
  longer = length-append ks (c ∷ [])

  further : (d a : ℕ) → d ≢ c → IsLastOf ks d (length ks) a → IsLastOf (ks ++ c ∷ []) d (length ks + 1) a
  further d a other l =
      let within = l.within in
      record {
        within = omega arith;
        is = λ some. prefix (a - 1) (omega arith) ∙ l.is some;
        last = λ j low high is. elim (cases_lt j (length ks)) [
          | inl before ↦ l.last j low before (sym (prefix j before) ∙ is)
          | inr afterwards ↦ (let here : j ≡ length ks = omega arith in other (sym is ∙ ap (place_in (ks ++ c ∷ [])) here ∙ end))
        ];
      }

  module _ (es ls : List ℕ) (long : length es ≡ length ks) (low : c < length ls) where
    pub chains_more : AreChains ks es ls → AreChains (ks ++ c ∷ []) (es ++ place_in ls c ∷ []) (set ls c (length ks + 1))
    chains_more h = record {
      first = λ d few. subst (λ n. IsLastOf (ks ++ c ∷ []) d n (place_in (set ls c (length ks + 1)) d)) (sym longer)
          (set_at_case (λ a. IsLastOf (ks ++ c ∷ []) d (length ks + 1) a) ls c (length ks + 1) d low
          (λ same. (let before : length ks + 1 - 1 ≡ length ks = omega arith in
          record { within = omega arith; is = λ some. ap (place_in (ks ++ c ∷ [])) before ∙ end ∙ sym same; last = λ j from below is. absurd (omega arith) }))
          (λ other. further d (place_in ls d) other (h.first d few)));
      next = λ k d below is few. push_at_case (λ a. IsLastOf (ks ++ c ∷ []) d k a) es (place_in ls c) k (omega (arith, longer))
          (λ inside. last_along ks (ks ++ c ∷ []) d k (place_in es k) (λ j under. prefix j (omega arith)) (h.next k d (omega arith) (sym (prefix k (omega arith)) ∙ is) few))
          (λ afterwards. (let here : k ≡ length ks = omega arith in
          let same_kind : c ≡ d = sym end ∙ ap (place_in (ks ++ c ∷ [])) (sym here) ∙ is in
          subst (λ n. IsLastOf (ks ++ c ∷ []) d n (place_in ls c)) (sym here)
          (subst (λ e. IsLastOf (ks ++ c ∷ []) d (length ks) (place_in ls e)) (sym same_kind)
          (last_along ks (ks ++ c ∷ []) d (length ks) (place_in ls d) prefix (h.first d few)))));
    }

    module _ (e : ℕ) (h : AreChains (ks ++ c ∷ []) (es ++ e ∷ []) ls) where
      popped_first : (d : ℕ) → d < 512 → d ≢ c → IsLastOf ks d (length ks) (place_in ls d)
      popped_first d few other =
          let l : IsLastOf (ks ++ c ∷ []) d (length (ks ++ c ∷ [])) (place_in ls d) = h.first d few in
          let within = l.within in
          let a = place_in ls d in
          let inside : a ≤ length ks = elim (cases_lt (length ks) a) [
            | inl beyond ↦ (let here : a - 1 ≡ length ks = omega (arith, longer) in absurd (other (sym (l.is (omega arith)) ∙ ap (place_in (ks ++ c ∷ [])) here ∙ end)))
            | inr low ↦ low
          ] in
          record {
            within = inside;
            is = λ some. sym (prefix (a - 1) (omega arith)) ∙ l.is some;
            last = λ j from high is. l.last j from (omega (arith, longer)) (prefix j high ∙ is);
          }

      pub chains_fewer : AreChains ks es (set ls c e)
      chains_fewer = record {
        first = λ d few. set_at_case (λ a. IsLastOf ks d (length ks) a) ls c e d low
            (λ same. (let l : IsLastOf (ks ++ c ∷ []) d (length ks) (place_in (es ++ e ∷ []) (length ks)) = h.next (length ks) d (omega (arith, longer)) (end ∙ sym same) few in
            last_along (ks ++ c ∷ []) ks d (length ks) e (λ j under. sym (prefix j under)) (subst (λ a. IsLastOf (ks ++ c ∷ []) d (length ks) a) (last_at es e (length ks) (sym long)) l)))
            (λ other. popped_first d few other);
        next = λ k d below is few.
            (let l = h.next k d (omega (arith, longer)) (prefix k below ∙ is) few in
            let link : place_in (es ++ e ∷ []) k ≡ place_in es k = get_or_append_left es (e ∷ []) 0 k (omega arith) in
            subst (λ a. IsLastOf ks d k a) link (last_along (ks ++ c ∷ []) ks d k (place_in (es ++ e ∷ []) k) (λ j under. sym (prefix j (omega arith))) l));
      }

-- ---- an entry that gets another kind

-- all links but that of the entry itself
pub record AreChainsBut (kinds earlier latest : List ℕ) (p : ℕ) : Type 0 where
  pub first : (c : ℕ) → c < 512 → IsLastOf kinds c (length kinds) (place_in latest c)
  pub next : (k c : ℕ) → k ≢ p → k < length kinds → place_in kinds k ≡ c → c < 512 → IsLastOf kinds c k (place_in earlier k)

module _ (ks new es ls : List ℕ) (c p over at to : ℕ)
    (same_length : length new ≡ length ks) (same : (j : ℕ) → j ≢ p → place_in new j ≡ place_in ks j)
    (was_apart : (e : ℕ) → e < 512 → e ≢ c → place_in ks p ≡ e → ⊥) (is_apart : (e : ℕ) → e < 512 → e ≢ c → place_in new p ≡ e → ⊥)
    (few : c < 512) (low : c < length ls) (long : length es ≡ length ks) (inside : p < length ks)
    (h : AreChains ks es ls) (link : IsLink ks es ls c p over at)
    (goes : (k : ℕ) → p < k → ((j : ℕ) → p < j → j < k → place_in ks j ≡ c → ⊥) → IsLastOf new c k to) where
  other : (e k a : ℕ) → e < 512 → e ≢ c → IsLastOf ks e k a → IsLastOf new e k a
  other e k a less off l = record {
    within = l.within;
    is = λ some. elim (cases_eq (a - 1) p) [
      | inl here ↦ absurd (was_apart e less off (ap (place_in ks) (sym here) ∙ l.is some))
      | inr away ↦ same (a - 1) away ∙ l.is some
    ];
    last = λ j from high is. elim (cases_eq j p) [
      | inl here ↦ is_apart e less off (ap (place_in new) (sym here) ∙ is)
      | inr away ↦ l.last j from high (sym (same j away) ∙ is)
    ];
  }

  before : (k a : ℕ) → k ≤ p → IsLastOf ks c k a → IsLastOf new c k a
  before k a under l = last_along ks new c k a (λ j below. same j (λ e. omega arith)) l

  beyond : (k a : ℕ) → p + 1 < a → IsLastOf ks c k a → IsLastOf new c k a
  beyond k a high l = record {
    within = l.within;
    is = λ some. same (a - 1) (λ e. omega arith) ∙ l.is some;
    last = λ j from below is. l.last j from below (sym (same j (λ e. omega arith)) ∙ is);
  }

  near : (k a : ℕ) → p < k → a ≤ p + 1 → IsLastOf ks c k a → IsLastOf new c k to
  near k a above under l = goes k above (λ j past below. l.last j (omega arith) below)

  -- the chain comes here from its beginning

  none_beyond : over ≡ 0 → (k : ℕ) → p < k → k < length ks → place_in ks k ≡ c → ⊥
  none_beyond none k above below is =
      let l = h.first c few in
      let begins = link.begins none in
      let under = link.below in
      l.last k (omega arith) below is

  first_first : over ≡ 0 → (d : ℕ) → d < 512 → IsLastOf new d (length new) (place_in (set ls c to) d)
  first_first none d less = subst (λ n. IsLastOf new d n (place_in (set ls c to) d)) (sym same_length)
      (set_at_case (λ a. IsLastOf new d (length ks) a) ls c to d low
      (λ is_c. subst (λ x. IsLastOf new x (length ks) to) (sym is_c)
      (near (length ks) (place_in ls c) inside (let begins = link.begins none in let under = link.below in omega arith) (h.first c few)))
      (λ off. other d (length ks) (place_in ls d) less off (h.first d less)))

  first_next : over ≡ 0 → (k d : ℕ) → k ≢ p → k < length new → place_in new k ≡ d → d < 512 → IsLastOf new d k (place_in es k)
  first_next none k d away below is less =
      let old : place_in ks k ≡ d = sym (same k away) ∙ is in
      let l = h.next k d (omega (arith, same_length)) old less in
      elim (cases_eq d c) [
        | inr off ↦ other d k (place_in es k) less off l
        | inl is_c ↦ elim (cases_lt p k) [
          | inl above ↦ absurd (none_beyond none k above (omega (arith, same_length)) (old ∙ is_c))
          | inr under ↦ subst (λ x. IsLastOf new x k (place_in es k)) (sym is_c) (before k (place_in es k) under (subst (λ x. IsLastOf ks x k (place_in es k)) is_c l))
        ]
      ]

  -- the chain comes here from another entry

  module _ (some : 0 < over) where
    passes : p + 1 < over
    passes = link.passes some

    higher : p + 1 < place_in ls c
    higher =
        let l = h.first c few in
        let past = passes in
        let within = link.within in
        elim (cases_lt (p + 1) (place_in ls c)) [
          | inl high ↦ high
          | inr under ↦ absurd (l.last (over - 1) (omega arith) (omega arith) (link.of_kind some))
        ]

    far : (k : ℕ) → p < k → k < length ks → k ≢ over - 1 → place_in ks k ≡ c → p + 1 < place_in es k
    far k above below away is =
        let past = passes in
        let within = link.within in
        elim (cases_order k (over - 1)) [
          | inl here ↦ absurd (away here)
          | inr off ↦ elim off [
            | inl under ↦ (let l = h.next (over - 1) c (omega arith) (link.of_kind some) few in
                let leads = link.goes some in
                let low_at = link.below in
                absurd (l.last k (omega arith) under is))
            | inr afterwards ↦ (let l = h.next k c below is few in
                elim (cases_lt (p + 1) (place_in es k)) [
                  | inl high ↦ high
                  | inr low_at ↦ absurd (l.last (over - 1) (omega arith) afterwards (link.of_kind some))
                ])
          ]
        ]

    next_first : (d : ℕ) → d < 512 → IsLastOf new d (length new) (place_in ls d)
    next_first d less = subst (λ n. IsLastOf new d n (place_in ls d)) (sym same_length)
        (elim (cases_eq d c) [
          | inl is_c ↦ subst (λ x. IsLastOf new x (length ks) (place_in ls x)) (sym is_c) (beyond (length ks) (place_in ls c) higher (h.first c few))
          | inr off ↦ other d (length ks) (place_in ls d) less off (h.first d less)
        ])

    next_next : (k d : ℕ) → k ≢ p → k < length new → place_in new k ≡ d → d < 512 → IsLastOf new d k (place_in (set es (over - 1) to) k)
    next_next k d away below is less =
        let old : place_in ks k ≡ d = sym (same k away) ∙ is in
        let l = h.next k d (omega (arith, same_length)) old less in
        let past = passes in
        let within = link.within in
        set_at_case (λ a. IsLastOf new d k a) es (over - 1) to k (omega arith)
        (λ here. (let is_c : d ≡ c = sym old ∙ ap (place_in ks) here ∙ link.of_kind some in
        let leads : place_in es k ≡ at = ap (place_in es) here ∙ link.goes some in
        let low_at = link.below in
        subst (λ x. IsLastOf new x k to) (sym is_c) (near k (place_in es k) (omega arith) (omega arith) (subst (λ x. IsLastOf ks x k (place_in es k)) is_c l))))
        (λ elsewhere. elim (cases_eq d c) [
          | inr off ↦ other d k (place_in es k) less off l
          | inl is_c ↦ (let of_c = subst (λ x. IsLastOf ks x k (place_in es k)) is_c l in
              subst (λ x. IsLastOf new x k (place_in es k)) (sym is_c)
              (elim (cases_lt p k) [
                | inl above ↦ beyond k (place_in es k) (far k above (omega (arith, same_length)) elsewhere (old ∙ is_c)) of_c
                | inr under ↦ before k (place_in es k) under of_c
              ]))
        ])

  pub led_elsewhere : AreChainsBut new (led over to es) (begun over c to ls) p
  led_elsewhere = elim (cases_eq over 0) [
    | inl none ↦ subst (λ xs. AreChainsBut new xs (begun over c to ls) p) (sym (led_first over to es none))
        (subst (λ xs. AreChainsBut new es xs p) (sym (begun_first over c to ls none)) (record { first = first_first none; next = first_next none }))
    | inr off ↦ (let some = some_of over off in
        subst (λ xs. AreChainsBut new xs (begun over c to ls) p) (sym (led_next over to es off))
        (subst (λ xs. AreChainsBut new (set es (over - 1) to) xs p) (sym (begun_next over c to ls off)) (record { first = next_first some; next = next_next some })))
  ]

-- ---- one entry in the place of another, of another kind

length-led : (over to : ℕ) (es : List ℕ) → length (led over to es) ≡ length es
length-led over to es = elim (cases_eq over 0) [
  | inl none ↦ ap length (led_first over to es none)
  | inr some ↦ ap length (led_next over to es some) ∙ length-set es (over - 1) to
]

pub length-begun : (over c to : ℕ) (ls : List ℕ) → length (begun over c to ls) ≡ length ls
length-begun over c to ls = elim (cases_eq over 0) [
  | inl none ↦ ap length (begun_first over c to ls none) ∙ length-set ls c to
  | inr some ↦ ap length (begun_next over c to ls some)
]

module _ (ks es ls : List ℕ) (c d p over at above under : ℕ)
    (few : c < 512) (few_too : d < 512) (off : d ≢ c) (many : length ls ≡ 512) (long : length es ≡ length ks) (inside : p < length ks)
    (was : place_in ks p ≡ c) (h : AreChains ks es ls) (link : IsLink ks es ls c p over at) (found : IsLink ks es ls d p above under) where
  abbrev to : ℕ
  to = place_in es p

  abbrev hole : List ℕ
  hole = set ks p 512

  at_hole : place_in hole p ≡ 512
  at_hole = get_or-set_same ks p 512 0 inside

  away_hole : (j : ℕ) → j ≢ p → place_in hole j ≡ place_in ks j
  away_hole j away = get_or-set_other ks p j 512 0 away

  same_hole : length hole ≡ length ks
  same_hole = length-set ks p 512

  left_goes : (k : ℕ) → p < k → ((j : ℕ) → p < j → j < k → place_in ks j ≡ c → ⊥) → IsLastOf hole c k to
  left_goes k past none =
      let l = h.next p c inside was few in
      let within = l.within in
      record {
        within = omega arith;
        is = λ some. away_hole (to - 1) (λ e. omega arith) ∙ l.is some;
        last = λ j from below is. elim (cases_order j p) [
          | inl here ↦ (let wrong : 512 ≡ c = sym at_hole ∙ ap (place_in hole) (sym here) ∙ is in omega arith)
          | inr off_p ↦ elim off_p [
            | inl before ↦ l.last j from before (sym (away_hole j (λ e. omega arith)) ∙ is)
            | inr afterwards ↦ none j afterwards below (sym (away_hole j (λ e. omega arith)) ∙ is)
          ]
        ];
      }

  abbrev es1 : List ℕ
  es1 = led over to es

  abbrev ls1 : List ℕ
  ls1 = begun over c to ls

  left_but : AreChainsBut hole es1 ls1 p
  left_but = led_elsewhere ks hole es ls c p over at to same_hole away_hole
      (λ e less apart is. apart (sym is ∙ was)) (λ e less apart is. (let wrong : 512 ≡ e = sym at_hole ∙ is in omega arith))
      few (omega arith) long inside h link left_goes

  left_chains : AreChains hole es1 ls1
  left_chains = record {
    first = left_but.first;
    next = λ k e below is less. elim (cases_eq k p) [
      | inl here ↦ absurd (let wrong : 512 ≡ e = sym at_hole ∙ ap (place_in hole) (sym here) ∙ is in omega arith)
      | inr away ↦ left_but.next k e away below is less
    ];
  }

  -- the link of the other kind is as it was
  same_begins : place_in ls1 d ≡ place_in ls d
  same_begins = elim (cases_eq over 0) [
    | inl none ↦ ap (λ xs. place_in xs d) (begun_first over c to ls none) ∙ get_or-set_other ls c d to 0 off
    | inr some ↦ ap (λ xs. place_in xs d) (begun_next over c to ls some)
  ]

  same_goes : 0 < above → place_in es1 (above - 1) ≡ place_in es (above - 1)
  same_goes some = elim (cases_eq over 0) [
    | inl none ↦ ap (λ xs. place_in xs (above - 1)) (led_first over to es none)
    | inr more ↦ (let apart : above - 1 ≢ over - 1 = λ e. off (sym (found.of_kind some) ∙ ap (place_in ks) e ∙ link.of_kind (some_of over more)) in
        ap (λ xs. place_in xs (above - 1)) (led_next over to es more) ∙ get_or-set_other es (over - 1) (above - 1) to 0 apart)
  ]

  found_there : IsLink hole es1 ls1 d p above under
  found_there = record {
    begins = λ none. same_begins ∙ found.begins none;
    passes = found.passes;
    within = (let within = found.within in omega (arith, same_hole));
    of_kind = λ some. (let past = found.passes some in away_hole (above - 1) (λ e. omega arith) ∙ found.of_kind some);
    goes = λ some. same_goes some ∙ found.goes some;
    below = found.below;
  }

  abbrev new : List ℕ
  new = set ks p d

  at_new : place_in new p ≡ d
  at_new = get_or-set_same ks p d 0 inside

  away_new : (j : ℕ) → j ≢ p → place_in new j ≡ place_in hole j
  away_new j away = get_or-set_other ks p j d 0 away ∙ sym (away_hole j away)

  same_new : length new ≡ length hole
  same_new = length-set ks p d ∙ sym same_hole

  put_goes : (k : ℕ) → p < k → ((j : ℕ) → p < j → j < k → place_in hole j ≡ d → ⊥) → IsLastOf new d k (p + 1)
  put_goes k past none = record {
    within = omega arith;
    is = λ some. (let here : p + 1 - 1 ≡ p = omega arith in ap (place_in new) here ∙ at_new);
    last = λ j from below is. none j (omega arith) below (sym (away_new j (λ e. omega arith)) ∙ is);
  }

  put_but : AreChainsBut new (led above (p + 1) es1) (begun above d (p + 1) ls1) p
  put_but = led_elsewhere hole new es1 ls1 d p above under (p + 1) same_new away_new
      (λ e less apart is. (let wrong : 512 ≡ e = sym at_hole ∙ is in omega arith)) (λ e less apart is. apart (sym is ∙ at_new))
      few_too (omega (arith, length-begun over c to ls)) (length-led over to es ∙ long ∙ sym same_hole) (omega (arith, same_hole)) left_chains found_there put_goes

  abbrev es2 : List ℕ
  es2 = led above (p + 1) es1

  -- the entry is linked to where the chain of its kind went
  linked_on : IsLastOf hole d p under
  linked_on =
      let low = found_there.below in
      let inside_hole : p < length hole = omega (arith, same_hole) in
      let shown : (k : ℕ) → p < k → IsLastOf hole d k under → IsLastOf hole d p under = λ k past l. (
      let not_here : under ≡ p + 1 → ⊥ = λ e. (let wrong : 512 ≡ d = sym at_hole ∙ ap (place_in hole) (omega arith) ∙ l.is (omega arith) in omega arith) in
      let within : under ≤ p = elim (cases_lt p under) [
        | inl beyond ↦ absurd (not_here (omega arith))
        | inr inside ↦ inside
      ] in
      record { within = within; is = l.is; last = λ j from below is. l.last j from (omega arith) is }) in
      elim (cases_eq above 0) [
        | inl none ↦ shown (length hole) inside_hole (subst (λ a. IsLastOf hole d (length hole) a) (found_there.begins none) (left_chains.first d few_too))
        | inr more ↦ (let some = some_of above more in
            let past = found_there.passes some in
            let within = found_there.within in
            shown (above - 1) (omega arith) (subst (λ a. IsLastOf hole d (above - 1) a) (found_there.goes some) (left_chains.next (above - 1) d (omega arith) (found_there.of_kind some) few_too)))
      ]

  pub chains_replaced : AreChains (set ks p d) (set (led above (p + 1) (led over (place_in es p) es)) p under) (begun above d (p + 1) (begun over c (place_in es p) ls))
  chains_replaced = record {
    first = put_but.first;
    next = λ k e below is less. set_at_case (λ a. IsLastOf new e k a) es2 p under k (omega (arith, length-led above (p + 1) es1, length-led over to es))
        (λ here. (let is_d : e ≡ d = sym is ∙ ap (place_in new) here ∙ at_new in
        subst (λ n. IsLastOf new e n under) (sym here) (subst (λ x. IsLastOf new x p under) (sym is_d)
        (last_along hole new d p under (λ j before. away_new j (λ e. omega arith)) linked_on))))
        (λ away. put_but.next k e away below is less);
  }

-- one entry in the place of another of its kind
pub chains_same : (ks es ls : List ℕ) (p c : ℕ) → p < length ks → place_in ks p ≡ c → AreChains ks es ls → AreChains (set ks p c) (set es p (place_in es p)) ls
chains_same ks es ls p c inside is h =
    let same_ks : set ks p c ≡ ks = ap (set ks p) (sym is) ∙ set-get_or ks p 0 in
    let same_es : set es p (place_in es p) ≡ es = set-get_or es p 0 in
    subst (λ xs. AreChains xs (set es p (place_in es p)) ls) (sym same_ks) (subst (λ xs. AreChains ks xs ls) (sym same_es) h)

-- one entry in the place of another, of another kind, by the links that were found
pub chains_put : (ks es ls : List ℕ) (c d at to over left above under : ℕ) → c < 512 → d < 512 → d ≢ c → length ls ≡ 512 → length es ≡ length ks → 0 < at → at ≤ length ks
    → place_in ks (at - 1) ≡ c → place_in es (at - 1) ≡ to → AreChains ks es ls → IsLink ks es ls c (at - 1) over left → IsLink ks es ls d (at - 1) above under
    → AreChains (set ks (at - 1) d) (set (led above at (led over to es)) (at - 1) under) (begun above d at (begun over c to ls))
chains_put ks es ls c d at to over left above under few few_too off many long some within was is h link found =
    let same : at - 1 + 1 ≡ at = omega arith in
    subst (λ n. AreChains (set ks (at - 1) d) (set (led above n (led over to es)) (at - 1) under) (begun above d n (begun over c to ls))) same
    (subst (λ t. AreChains (set ks (at - 1) d) (set (led above (at - 1 + 1) (led over t es)) (at - 1) under) (begun above d (at - 1 + 1) (begun over c t ls))) is
    (chains_replaced ks es ls c d (at - 1) over left above under few few_too off many long (omega arith) was h link found))
