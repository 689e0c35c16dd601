-- Functions `*r = g(*r, v)` over lent registers, with v a number or a float: one walk of their MIR for all. The borrow is opened, the record is
-- copied and handed to g with v, and the borrow is closed at the record that g returned. All that the walk knows of g is its contract.
--     Scalar, uint64, ieee       the type of v
--     putting N g                the MIR
--     PutEnsured, Follows        what the function promises; that it follows from g's equation
--     puts_meets                 then the function meets its contract
-- Assumes nothing.
use Rattle.std.proofs.Common.{◌≡◌, ℕ, T, List, [], ◌∷◌, refl, w64, MutBor}
use seplogic.Ra.Ura.{Ura}
use base.Fraction.{full_share}
use lib.Ieee.{Float, Format}
use mir.Syntax.{Ty, Symbol, Fn, fn₀, local, value_local, ty_unit, ty_ref, ty_int, ty_float, named, mut, seq, assign, call, return, place, deref, rv_opd, opd_unit, copy}
use mir.Val.{Val, vunit, vint, vfloat, vptr, has_ty, WT}
use mir.ValLaws.{eq_f_refl}
use base.Logic.{SProp, ent, sep, emp, via, fst∗, snd∗, emp∗, comm∗, mono_l, ex_e, id⊢}
use base.Fml.{Fml, GName, Lft, Share, ftrue, flft, fobs, fbor}
use base.Stored.{Coded, coded_ℕ, coded_float}
use prog.Wp.{Calls, Loops, WpFn, Tables}
use types.Logic.{Logic, sem}
use contract.Lifetimes.{Lfts}
use contract.Monad.{fact}
use types.Kit.{Item, Step, step, prop, ‵, raw, some, later, ◌⊛◌, ◌$◌, ◌∵◌, !, qed, by, move, keep, drop, use1, split, join, pick}
use types.Kit.{fsplit, fsplit3, fjoin, fjoin3, feq_i, suffices, frame, await, done}
use types.Run.{look, look_raw, init, store_raw, forget, stop, hop, from, load, unit_lit, of_opd, and_then, no_more, assigns, land, returns}
use types.Run.{enter, alloc1, alloc0, params1, pass1, pass0, free1, free0}
use types.SemTy.{Body as Held}
use sound.WpLaws.{FmC, fm_of, WpFn-mono}
use denote.RattleType.{RattleType, owns}
use denote.Laws.{Is, Makes, shows}
use denote.Memory.{mem, pointee}
use denote.Shadow.{Pure}
use denote.Plain.{plain_type, plain_Makes, UInt, uint_Tells}
use denote.Floats.{FloatOf, float_Tells, passes}
use denote.Builtin.{RefMutOf, unit}
use denote.Ref.{MutRef, mut_vals, mut_Tells}
use denote.Signature.{plain}
use denote.Steps.{opens, closes, owned, peeks, heard, nothing}
use denote.Struct.Steps.{spelt}
use denote.Struct.Laws as LL
use denote.Triple.Entry.{on_entry, Args}
use denote.Triple.Spec.{Meets, triple_of}
use denote.Triple.Statement.{Contract, Triple}
use denote.Triple.Call.{calls_at}
use denote.Triple.Clauses.{Ended, Clauses, AtExit, at_exit, ensured, lasts, closing}
use denote.Triple.Walked.{Stays, stay_ref, stay_none, walk_of, AllGo, Goes-none, Goes-ref, ends_at, walked, walk_Meets}
use denote.Exit.{yes}
use Rattle.regs.specs.declared.registers.Registers.{Registers}
use Rattle.regs.specs.contracts.registers.Registers as T
use Rattle.regs.proofs.registers.Registers.TheLaws as T'

-- a goal P ∗ Q, where Q holds by itself: P is left
shown : {M : Type 1} {𝓤 : Ura M} {𝓛 : Logic 𝓤} {K : Type 0} {Γ : List (Item 𝓤)} → K → {P Q : SProp 𝓤}
    → ent 𝓤 (emp 𝓤) Q → Step K 𝓛 Γ (prop P) Γ (prop (sep 𝓤 P Q))
shown {𝓤 = 𝓤} t {P} {Q} q = step (λ s. record { prf = via 𝓤 P s.prf (via 𝓤 (sep 𝓤 (emp 𝓤) P) (emp∗ 𝓤 P) (via 𝓤 (sep 𝓤 Q P) (mono_l 𝓤 P q) (comm∗ 𝓤 Q P))) })

-- the type of v, which holds no resource
pub record Scalar : Type 1 where
  pub Some : Type 0
  pub coded : Coded Some
  pub ty : Ty
  pub val : Some → Val
  pub own : Some → List Val → Fml
  pub pure : (x : Some) (vs : List Val) → Pure (own x vs)
  pub tells : (x : Some) (vs : List Val) → Is (plain_type Some coded (ty ∷ []) own pure) x vs → vs ≡ val x ∷ []
  pub typed : (x : Some) → Is (plain_type Some coded (ty ∷ []) own pure) x (val x ∷ []) → T (has_ty ty (val x)) × WT (val x)

abbrev pub uint64 : Scalar
uint64 =
    record {
      Some = ℕ;
      coded = coded_ℕ;
      ty = ty_int w64;
      val = vint w64;
      own = (UInt w64).own_val;
      pure = λ _ _. (tt, tt);
      tells = uint_Tells
          w64;
      typed = λ x p. (tt, record { fits = p.1 });
    }

abbrev pub ieee : Format → Scalar
ieee f =
    record {
      Some = Float;
      coded = coded_float;
      ty = ty_float f;
      val = vfloat f;
      own = (FloatOf f).own_val;
      pure = λ _ _. (tt, tt);
      tells = float_Tells f;
      typed = λ x p. (eq_f_refl f, passes _ p.1);
    }

module _ (N : Scalar) where
  abbrev row : RattleType
  row = plain_type N.Some N.coded (N.ty ∷ []) N.own N.pure

  abbrev pub putting : Symbol → Fn
  putting g = record {
    lifetimes = 1;
    outlives = [];
    ty_params = [];
    givens = 0;
    params = 2;
    locals =
        local ty_unit value_local ∷ local (ty_ref (named 0) mut (pointee (T.the_row).written)) value_local ∷ local N.ty value_local
        ∷ local T'.mir value_local ∷ local T'.mir value_local ∷ [];
    body =
        seq (assign (place 4 []) (rv_opd (copy (place 1 (deref T'.mir ∷ [])))))
        (seq (call (fn₀ g) (copy (place 4 []) ∷ copy (place 2 []) ∷ []) (place 3 []))
        (seq (assign (place 1 (deref T'.mir ∷ [])) (rv_opd (copy (place 3 [])))) (seq (assign (place 0 []) (rv_opd opd_unit)) return)));
  }

  -- the two signatures: the function's, and g's
  abbrev pub puts : Ended
  puts = record {
    signature =
        record {
          lifetimes = 1;
          outlives = [];
          params = RefMutOf (0 ∷ []) tt (plain (λ _. T.the_row)) (λ _. tt) ∷ plain (λ _. row)
              ∷ [];
          result = plain (λ _. unit);
        };
    kept = (yes, (yes, tt));
  }

  abbrev pub gives : Ended
  gives = record {
    signature = record { lifetimes = 0; outlives = []; params = plain (λ _. T.the_row) ∷ plain (λ _. row) ∷ []; result = plain (λ _. T.the_row) };
    kept = (yes, (yes, tt));
  }

  abbrev stayed : Stays puts.signature.params puts.kept
  stayed = (stay_ref (0 ∷ []) tt (plain (λ _. T.the_row)), (stay_none (λ _. row) yes, tt))

  -- g's contract: an equation on the whole record
  abbrev pub given_clauses : {M : Type 1} (𝓤 : Ura M) → (Registers → N.Some → Registers) → Clauses 𝓤 gives
  given_clauses 𝓤 update κs a = record { ghost = Unit {0}; requires = λ _. emp 𝓤; ensures = λ _ r _. fact 𝓤 (r ≡ update a.0 a.1.0) }

  -- the function's own contract
  abbrev pub PutEnsured : {M : Type 1} → Ura M → Type 2
  PutEnsured 𝓤 = (κs : Lfts 1) → Args puts.signature κs → AtExit puts κs → SProp 𝓤

  abbrev pub put_clauses : {M : Type 1} (𝓤 : Ura M) → PutEnsured 𝓤 → Clauses 𝓤 puts
  put_clauses 𝓤 E κs a = record { ghost = Unit {0}; requires = λ _. emp 𝓤; ensures = λ _ _ e. E κs a e }

  module _ {M : Type 1} {𝓤 : Ura M} (𝓛 : Logic 𝓤) (update : Registers → N.Some → Registers) where
    -- the contract that the walk cites
    open 𝓛 use {H, A}

    abbrev pub Callee : Contract 𝓤
    Callee = triple_of 𝓛 gives.signature (closing 𝓛 gives (given_clauses 𝓤 update))

    said : (h : Registers) (n : N.Some) (r : Registers) → ent 𝓤 (ensured 𝓛 gives (given_clauses 𝓤 update) tt (h, (n, tt)) tt r) (fact 𝓤 (r ≡ update h n))
    said h n r = ex_e 𝓤 _ (λ ws. snd∗ 𝓤 (sem 𝓛 (lasts gives tt (h, (n, tt)) ws)) (fact 𝓤 (r ≡ update h n)))

    abbrev pub Follows : PutEnsured 𝓤 → Type 1
    Follows E =
        (κs : Lfts 1) (a : Args puts.signature κs) (r : Registers) → r ≡ update a.0.now a.1.0
        → ent 𝓤 (emp 𝓤) (E κs a (at_exit puts κs a (r, (tt, tt))))

    module _ (E : PutEnsured 𝓤) (follows : Follows E) where
      abbrev makes : Makes 𝓛 row (Is row)
      makes = plain_Makes 𝓛 N.Some N.coded (N.ty ∷ []) N.own N.pure

      module _ (κ : Lft) (q : Share) (b o : ℕ) (γ : GName) (h : Registers) (n : N.Some) where
        abbrev x : MutBor Registers × (N.Some × Unit {0})
        x = (record { ref_ptr = (b, o); ghost_name = γ; now = h }, (n, tt))

        abbrev at : List Val × (List Val × Unit {0})
        at = (vptr b o ∷ [], (N.val n ∷ [], tt))

        abbrev vals : List Val
        vals = LL.vals T.the_type T'.the_laws h

        abbrev Post : Val → SProp 𝓤
        Post = (walk_of 𝓛 puts stayed (put_clauses 𝓤 E)).post (((κ, tt), (q, tt), tt, x, at), tt)

        exits : Is row n (N.val n ∷ []) → (r : Registers) → r ≡ update h n
            → ent 𝓤 (sep 𝓤 (A.obs γ ((T.the_row).coded.code r)) (sep 𝓤 (A.bor κ (Held (mem T.the_row) b o γ)) (A.lft κ q))) (Post vunit)
        exits is r e =
            qed 𝓛 (‵ (fobs γ ((T.the_row).coded.code r)) ∷ ‵ (fbor κ (Held (mem T.the_row) b o γ)) ∷ ‵ (flft κ q) ∷ []) ∵
            suffices ! _ (ends_at 𝓛 puts stayed (put_clauses 𝓤 E) (((κ, tt), (q, tt), tt, x, at), tt) vunit tt (r, (tt, tt)) (tt, (tt, tt))) $
            shown ! (follows (κ, tt) x r e) $ nothing ! $ move ! (3 ∷ 0 ∷ []) $ join ! $
            frame ! $ feq_i ! (List Val) (vptr b o ∷ []) (vptr b o ∷ []) refl $ fjoin3 ! $ nothing ! $ owned ! row (Is row) makes n _ is $
            fjoin ! $ move ! (1 ∷ 0 ∷ []) $ fjoin ! $
            feq_i ! (List Val) (vunit ∷ []) (vunit ∷ []) refl $ move ! (1 ∷ 0 ∷ []) $ done !

        abbrev to : Callee.Ghost
        to = ((tt, tt, tt, (h, (n, tt)), (vals, (N.val n ∷ [], tt))), tt)

        hands : Is row n (N.val n ∷ []) → ent 𝓤 (sem 𝓛 ((T.the_row).own_val h vals)) (Callee.pre to)
        hands is =
            qed 𝓛 (‵ ((T.the_row).own_val h vals) ∷ []) ∵ nothing ! $ owned ! row (Is row) makes n _ is $ fjoin ! $ move ! (1 ∷ 0 ∷ []) $
            fjoin ! $ nothing ! $ join ! $ frame ! $ done !

        module _ (C : Calls 𝓤 H) (Λ : Loops 𝓤 H) (fm : FmC 𝓤 H 𝓛.laws C) (g : Symbol) (known : Triple 𝓤 (C (fn₀ g)) Callee) where
          walk : ent 𝓤 (on_entry 𝓛 puts.signature (κ, tt) (q, tt) x at) (WpFn 𝓤 H C Λ (putting g) (vptr b o ∷ N.val n ∷ []) Post)
          walk =
              qed 𝓛 ((‵ (flft κ q) ⊛ ‵ ftrue) ∷ ‵ (owns (MutRef (named 0) κ T.the_row ∷ row ∷ []) x at) ∷ []) ∵ split ! $ move ! (2 ∷ []) $
              fsplit ! $ move ! (1 ∷ []) $ fsplit ! $
              peeks ! row (Is row) (shows 𝓛 row) n (N.val n ∷ []) (λ gn. move ! (2 ∷ []) $ fsplit3 ! $ drop ! $ move ! (0 ∷ 1 ∷ 4 ∷ []) $
              -- [obs; the borrow; the token; what v owns; true; true]
              enter ! C Λ (putting g) (vptr b o ∷ N.val n ∷ []) _ $
              alloc1 ! (λ l₀. alloc1 ! (λ l₁.
              alloc1 ! (λ l₂. alloc1 ! (λ l₃.
              alloc1 ! (λ l₄. alloc0 ! $ params1 ! $ pass1 ! (init ! 6 refl (tt, tt)) $ pass1 ! (init ! 4 refl (N.typed n gn)) $ pass0 ! $
              move ! (10 ∷ 11 ∷ 12 ∷ []) $ opens ! tt T.the_row {h = h} b o
              (λ vs. spelt ! T.the_row (Is T.the_row) (shows 𝓛 T.the_row) (LL.vals T.the_type T'.the_laws)
              (LL.tells T.the_type T'.the_laws) full_share h vs b o $
              move ! (1 ∷ []) $ peeks ! T.the_row (Is T.the_row) (shows 𝓛 T.the_row) h vals (λ was. move ! (1 ∷ 0 ∷ []) $
              -- [the struct's cell; what a Registers owns; the open borrow; obs; auth; _4; …; _3; …; _2; …; _1; …; room for _0; …]
              assigns ! (of_opd ! (load ! (from ! (hop ! (look ! 11 refl) (stop !))) (look_raw ! 0 refl))) (from ! (stop !))
              (init ! 5 refl ((LL.lawful T.the_type T'.the_laws 𝓛).typed h _ was).0) $
              move ! (1 ∷ []) $ use1 𝓛 (raw (Callee.pre to)) (hands gn) $
              calls_at ! fm Callee known to
              (and_then ! (load ! (from ! (stop !)) (look ! 5 refl)) (and_then ! (load ! (from ! (stop !)) (look ! 9 refl)) (no_more !)))
              (λ v.
              use1 𝓛 (later (some (λ (r : Registers). (‵ ftrue ⊛ ‵ ((T.the_row).own_val r (v ∷ []))) ⊛
              raw (ensured 𝓛 gives (given_clauses 𝓤 update) tt (h, (n, tt)) tt r)))) (id⊢ 𝓤 _) $ await ! tt $ pick ! (λ r.
              split ! $ move ! (1 ∷ []) $ use1 𝓛 (raw (fact 𝓤 (r ≡ update h n))) (said h n r) $ heard ! (r ≡ update h n) (λ e. split ! $ drop ! $
              peeks ! T.the_row (Is T.the_row) (shows 𝓛 T.the_row) r (v ∷ []) (λ is.
              -- [what r owns; the struct's cell; the open borrow; obs; auth; _4; …; _3; …; _2; …; _1; …; room for _0; …]
              land ! (from ! (stop !)) (init ! 7 refl ((LL.lawful T.the_type T'.the_laws 𝓛).typed r _ is).0) $
              assigns ! (of_opd ! (load ! (from ! (stop !)) (look ! 7 refl))) (from ! (hop ! (look ! 11 refl) (stop !)))
              (store_raw ! 1 refl ((LL.lawful T.the_type T'.the_laws 𝓛).typed r _ is).0) $
              assigns ! (of_opd ! (unit_lit !)) (from ! (stop !)) (init ! 13 refl (tt, tt)) $
              move ! (1 ∷ 0 ∷ []) $ closes ! tt T.the_row r (v ∷ []) b o $
              returns ! (look ! 11 refl) $ forget ! 3 refl $ forget ! 5 refl $ forget ! 7 refl $ forget ! 9 refl $ forget ! 11 refl $
              move ! (11 ∷ 12 ∷ []) $ free1 ! $ move ! (9 ∷ 10 ∷ []) $ free1 ! $ move ! (7 ∷ 8 ∷ []) $ free1 ! $ move ! (5 ∷ 6 ∷ []) $
              free1 ! $ move ! (3 ∷ 4 ∷ []) $ free1 ! $ free0 ! $
              keep ! (0 ∷ 1 ∷ 2 ∷ []) $ by ! (exits gn r e)))))))))))))

      goes : AllGo 𝓛 1 puts.signature.params puts.kept stayed
      goes = (Goes-ref 𝓛 1 0 tt (plain (λ _. T.the_row)), (Goes-none 𝓛 1 (λ _. row) yes (λ κs x f. refl), tt))

      pub puts_meets : (𝓣 : Tables 𝓤 H) (g : Symbol) → Triple 𝓤 (𝓣.C (fn₀ g)) Callee
          → Meets 𝓛 puts.signature (WpFn 𝓤 H 𝓣.C 𝓣.Λ (putting g)) (closing 𝓛 puts (put_clauses 𝓤 E))
      puts_meets 𝓣 g known =
          walk_Meets 𝓛 puts stayed goes (put_clauses 𝓤 E) (WpFn 𝓤 H 𝓣.C 𝓣.Λ (putting g)) (WpFn-mono 𝓤 H 𝓛.laws 𝓣 (putting g))
          (walked 𝓛 puts stayed (put_clauses 𝓤 E) (WpFn 𝓤 H 𝓣.C 𝓣.Λ (putting g)) (λ κs. (mut_vals, ((λ n. N.val n ∷ []), tt)))
          (λ κs. (mut_Tells (named 0) κs.0 T.the_row, (N.tells, tt)))
          (λ κs qs bounds a _ _. via 𝓤 _ (fst∗ 𝓤 _ (emp 𝓤))
          (walk κs.0 qs.0 a.0.ref_ptr.0 a.0.ref_ptr.1 a.0.ghost_name a.0.now a.1.0 𝓣.C 𝓣.Λ (fm_of 𝓤 H 𝓛.laws 𝓣) g
          known)))
