-- Runs of random calls as the Rust answers them, and the blocks after them, by computing. Assumes nothing.
-- Made in host/compare by `cargo run --release --bin record_runs FILE`: the answers of gpu-allocator 0.28.0 with
-- docs/oracle.patch. It has no slots and is not asked about ids that are not live: slots, 9 and 10 are the paper's.
use Rattle.std.specs.Prelude.{List, [], ◌∷◌, ◌≡◌, refl}
use Rattle.model.specs.Lines.{line, lines, ask, chunk, begin_at}
use Rattle.model.specs.Runs.{Call, run, begin}
use Rattle.model.specs.Runs.Call.{free, rename_to}

abbrev calls_1 : List Call
calls_1 =
    free 0
    ∷ ask 9 1 2 64 432
    ∷ ask 3 1 2 64 734
    ∷ free 2
    ∷ free 3
    ∷ ask 5 1 1 64 384
    ∷ rename_to 4 642
    ∷ ask 59 1 2 256 966
    ∷ free 4
    ∷ free 23
    ∷ free 0
    ∷ free 4
    ∷ ask 64 1 2 64 512
    ∷ free 4
    ∷ free 4
    ∷ ask 48 8 2 8 346
    ∷ rename_to 5 836
    ∷ rename_to 5 179
    ∷ free 5
    ∷ ask 7 1 1 64 184
    ∷ ask 5 64 2 64 729
    ∷ ask 7 4 2 64 690
    ∷ free 6
    ∷ free 24
    ∷ free 0
    ∷ ask 64 1 2 64 243
    ∷ free 6
    ∷ free 0
    ∷ free 0
    ∷ ask 9 64 1 64 722
    ∷ free 7
    ∷ rename_to 7 361
    ∷ free 15
    ∷ free 31
    ∷ free 0
    ∷ ask 9 1 1 16 983
    ∷ free 8
    ∷ ask 64 1 2 64 167
    ∷ ask 5 1 2 64 767
    ∷ ask 8 1 1 64 965
    ∷ []

-- The lines of 40 calls on a fresh block of 64 bytes with 6 slots.
pub answers-1 :
    lines calls_1 (begin 64 6)
    ≡ line 10 0 0 0
    ∷ line 0 0 2 9
    ∷ line 0 9 3 12
    ∷ line 0 0 0 3
    ∷ line 0 0 0 0
    ∷ line 0 0 4 5
    ∷ line 0 0 0 5
    ∷ line 7 0 0 5
    ∷ line 0 0 0 0
    ∷ line 10 0 0 0
    ∷ line 10 0 0 0
    ∷ line 10 0 0 0
    ∷ line 0 0 4 64
    ∷ line 0 0 0 0
    ∷ line 10 0 0 0
    ∷ line 0 0 5 48
    ∷ line 0 0 0 48
    ∷ line 0 0 0 48
    ∷ line 0 0 0 0
    ∷ line 0 0 6 7
    ∷ line 7 0 0 7
    ∷ line 7 0 0 7
    ∷ line 0 0 0 0
    ∷ line 10 0 0 0
    ∷ line 10 0 0 0
    ∷ line 0 0 6 64
    ∷ line 0 0 0 0
    ∷ line 10 0 0 0
    ∷ line 10 0 0 0
    ∷ line 0 0 7 9
    ∷ line 0 0 0 0
    ∷ line 10 0 0 0
    ∷ line 10 0 0 0
    ∷ line 10 0 0 0
    ∷ line 10 0 0 0
    ∷ line 0 0 8 9
    ∷ line 0 0 0 0
    ∷ line 0 0 8 64
    ∷ line 7 0 0 64
    ∷ line 7 0 0 64
    ∷ []
unfolding lines
answers-1 = refl

-- And the block after them.
pub block_1 : (run calls_1 (begin 64 6)).block ≡ record {
  size = 64;
  next = 9;
  slots = 6;
  chunks =
      chunk 1 8 64 2 167
      ∷ [];
}
unfolding lines
block_1 = refl

abbrev calls_2 : List Call
calls_2 =
    free 1
    ∷ free 27
    ∷ ask 19 1 1 32 11
    ∷ ask 16 1 1 32 135
    ∷ ask 9 8 2 32 373
    ∷ rename_to 2 1
    ∷ ask 7 1 1 32 957
    ∷ ask 3 2 1 32 622
    ∷ ask 18 1 1 32 894
    ∷ ask 23 1 1 32 804
    ∷ ask 16 8 2 32 927
    ∷ ask 24 32 1 32 222
    ∷ ask 21 1 1 32 817
    ∷ free 1
    ∷ free 4
    ∷ free 2
    ∷ ask 16 1 2 32 691
    ∷ ask 45 2 1 32 941
    ∷ ask 19 1 1 32 963
    ∷ free 0
    ∷ free 2
    ∷ ask 16 1 1 2 416
    ∷ free 5
    ∷ ask 45 32 1 32 651
    ∷ ask 2 64 2 32 801
    ∷ ask 5 64 2 32 856
    ∷ free 3
    ∷ ask 22 1 2 32 292
    ∷ rename_to 4 711
    ∷ ask 80 1 2 8 796
    ∷ ask 13 64 1 32 30
    ∷ ask 12 4 1 32 971
    ∷ ask 3 2 1 4 657
    ∷ free 7
    ∷ ask 8 64 2 16 501
    ∷ rename_to 4 808
    ∷ rename_to 0 381
    ∷ ask 10 32 1 32 925
    ∷ free 8
    ∷ ask 16 1 2 32 797
    ∷ []

-- The lines of 40 calls on a fresh block of 96 bytes with 4 slots.
pub answers-2 :
    lines calls_2 (begin 96 4)
    ≡ line 10 0 0 0
    ∷ line 10 0 0 0
    ∷ line 0 0 2 19
    ∷ line 0 19 3 35
    ∷ line 0 64 4 73
    ∷ line 0 0 0 73
    ∷ line 7 0 0 73
    ∷ line 7 0 0 73
    ∷ line 7 0 0 73
    ∷ line 7 0 0 73
    ∷ line 0 80 1 96
    ∷ line 7 0 0 96
    ∷ line 7 0 0 96
    ∷ line 0 0 0 73
    ∷ line 0 0 0 35
    ∷ line 0 0 0 16
    ∷ line 0 64 5 61
    ∷ line 7 0 0 61
    ∷ line 0 0 2 80
    ∷ line 10 0 0 80
    ∷ line 0 0 0 61
    ∷ line 0 80 4 77
    ∷ line 0 0 0 32
    ∷ line 7 0 0 32
    ∷ line 7 0 0 32
    ∷ line 7 0 0 32
    ∷ line 0 0 0 16
    ∷ line 0 0 6 38
    ∷ line 0 0 0 38
    ∷ line 7 0 0 38
    ∷ line 0 64 7 93
    ∷ line 7 0 0 93
    ∷ line 7 0 0 93
    ∷ line 0 0 0 38
    ∷ line 0 64 8 88
    ∷ line 0 0 0 88
    ∷ line 10 0 0 88
    ∷ line 7 0 0 88
    ∷ line 0 0 0 38
    ∷ line 0 22 9 54
    ∷ []
unfolding lines
answers-2 = refl

-- And the block after them.
pub block_2 : (run calls_2 (begin 96 4)).block ≡ record {
  size = 96;
  next = 10;
  slots = 4;
  chunks =
      chunk 1 6 22 2 292
      ∷ chunk 3 9 16 2 797
      ∷ chunk 2 8 42 0 0
      ∷ chunk 4 4 16 1 808
      ∷ [];
}
unfolding lines
block_2 = refl

abbrev calls_3 : List Call
calls_3 =
    free 0
    ∷ ask 2 64 2 16 598
    ∷ ask 98 8 2 16 44
    ∷ free 2
    ∷ ask 2 32 1 64 596
    ∷ ask 5 4 2 16 95
    ∷ free 3
    ∷ ask 8 1 1 4 581
    ∷ ask 1 1 1 16 681
    ∷ free 4
    ∷ ask 7 64 2 16 170
    ∷ ask 3 32 1 16 461
    ∷ free 6
    ∷ free 7
    ∷ free 8
    ∷ ask 68 32 1 16 182
    ∷ ask 82 1 2 16 873
    ∷ rename_to 5 977
    ∷ free 0
    ∷ ask 9 32 1 1 971
    ∷ free 6
    ∷ ask 11 1 2 16 776
    ∷ free 23
    ∷ free 10
    ∷ ask 9 1 2 16 247
    ∷ ask 6 1 2 2 616
    ∷ free 5
    ∷ ask 2 1 1 16 251
    ∷ free 19
    ∷ ask 9 1 2 16 823
    ∷ rename_to 14 308
    ∷ ask 1 1 2 16 887
    ∷ free 15
    ∷ ask 7 32 2 1 787
    ∷ free 9
    ∷ ask 6 2 1 16 828
    ∷ free 11
    ∷ ask 4 8 1 8 294
    ∷ ask 8 8 1 16 164
    ∷ []

-- The lines of 39 calls on a fresh block of 100 bytes with 12 slots.
pub answers-3 :
    lines calls_3 (begin 100 12)
    ≡ line 10 0 0 0
    ∷ line 0 0 2 2
    ∷ line 7 0 0 2
    ∷ line 0 0 0 0
    ∷ line 0 0 3 2
    ∷ line 0 16 4 21
    ∷ line 0 0 0 19
    ∷ line 0 24 5 30
    ∷ line 0 32 6 31
    ∷ line 0 0 0 12
    ∷ line 0 0 7 19
    ∷ line 0 64 8 53
    ∷ line 0 0 0 52
    ∷ line 0 0 0 45
    ∷ line 0 0 0 11
    ∷ line 0 32 6 79
    ∷ line 7 0 0 79
    ∷ line 0 0 0 79
    ∷ line 10 0 0 79
    ∷ line 0 0 9 88
    ∷ line 0 0 0 20
    ∷ line 0 32 10 31
    ∷ line 10 0 0 31
    ∷ line 0 0 0 20
    ∷ line 0 32 11 29
    ∷ line 0 10 12 36
    ∷ line 0 0 0 25
    ∷ line 0 16 13 27
    ∷ line 10 0 0 27
    ∷ line 0 41 14 36
    ∷ line 0 0 0 36
    ∷ line 0 50 15 37
    ∷ line 0 0 0 36
    ∷ line 0 64 16 57
    ∷ line 0 0 0 48
    ∷ line 0 18 17 54
    ∷ line 0 0 0 45
    ∷ line 0 0 18 49
    ∷ line 0 24 19 57
    ∷ []
unfolding lines
answers-3 = refl

-- And the block after them.
pub block_3 : (run calls_3 (begin 100 12)).block ≡ record {
  size = 100;
  next = 20;
  slots = 12;
  chunks =
      chunk 5 18 4 1 294
      ∷ chunk 1 9 5 0 0
      ∷ chunk 6 12 7 2 616
      ∷ chunk 4 13 2 1 251
      ∷ chunk 9 17 6 1 828
      ∷ chunk 10 19 8 1 164
      ∷ chunk 3 7 9 0 0
      ∷ chunk 7 14 9 2 308
      ∷ chunk 2 16 21 2 787
      ∷ chunk 8 15 29 0 0
      ∷ [];
}
unfolding lines
block_3 = refl

abbrev calls_4 : List Call
calls_4 =
    ask 16 8 1 1 725
    ∷ free 2
    ∷ ask 16 64 1 1 47
    ∷ free 3
    ∷ free 23
    ∷ free 3
    ∷ ask 16 8 2 1 512
    ∷ ask 16 1 2 1 848
    ∷ ask 16 4 1 1 552
    ∷ ask 16 64 1 1 956
    ∷ ask 16 4 2 1 856
    ∷ free 7
    ∷ rename_to 8 358
    ∷ free 4
    ∷ ask 16 1 2 16 929
    ∷ rename_to 8 875
    ∷ ask 16 1 1 1 791
    ∷ free 6
    ∷ free 14
    ∷ ask 16 8 1 2 579
    ∷ free 6
    ∷ ask 16 1 2 1 372
    ∷ ask 16 1 2 1 724
    ∷ free 0
    ∷ ask 16 8 1 4 344
    ∷ ask 144 1 2 1 137
    ∷ ask 16 16 2 1 214
    ∷ rename_to 4 738
    ∷ ask 16 32 2 1 907
    ∷ free 3
    ∷ ask 16 1 1 1 378
    ∷ free 9
    ∷ ask 16 32 2 64 729
    ∷ free 0
    ∷ ask 16 1 1 8 84
    ∷ ask 16 32 2 1 752
    ∷ ask 16 1 1 1 304
    ∷ rename_to 8 725
    ∷ free 6
    ∷ ask 16 4 2 1 105
    ∷ []

-- The lines of 40 calls on a fresh block of 256 bytes with 12 slots.
pub answers-4 :
    lines calls_4 (begin 256 12)
    ≡ line 0 0 2 16
    ∷ line 0 0 0 0
    ∷ line 0 0 3 16
    ∷ line 0 0 0 0
    ∷ line 10 0 0 0
    ∷ line 10 0 0 0
    ∷ line 0 0 4 16
    ∷ line 0 16 5 32
    ∷ line 0 32 6 48
    ∷ line 0 64 7 80
    ∷ line 0 80 8 96
    ∷ line 0 0 0 64
    ∷ line 0 0 0 64
    ∷ line 0 0 0 48
    ∷ line 0 0 4 64
    ∷ line 0 0 0 64
    ∷ line 0 48 9 80
    ∷ line 0 0 0 64
    ∷ line 10 0 0 64
    ∷ line 0 32 6 80
    ∷ line 0 0 0 64
    ∷ line 0 32 6 80
    ∷ line 0 64 7 96
    ∷ line 10 0 0 96
    ∷ line 0 96 10 112
    ∷ line 0 112 3 256
    ∷ line 7 0 0 256
    ∷ line 0 0 0 256
    ∷ line 7 0 0 256
    ∷ line 0 0 0 112
    ∷ line 0 112 11 128
    ∷ line 0 0 0 112
    ∷ line 0 128 12 128
    ∷ line 10 0 0 128
    ∷ line 0 48 9 144
    ∷ line 0 160 13 176
    ∷ line 0 176 14 192
    ∷ line 0 0 0 192
    ∷ line 0 0 0 176
    ∷ line 0 32 6 192
    ∷ []
unfolding lines
answers-4 = refl

-- And the block after them.
pub block_4 : (run calls_4 (begin 256 12)).block ≡ record {
  size = 256;
  next = 15;
  slots = 12;
  chunks =
      chunk 2 4 16 2 738
      ∷ chunk 3 5 16 2 848
      ∷ chunk 4 6 16 2 105
      ∷ chunk 7 9 16 1 84
      ∷ chunk 5 7 16 2 724
      ∷ chunk 6 8 16 2 725
      ∷ chunk 8 10 16 1 344
      ∷ chunk 9 11 16 1 378
      ∷ chunk 10 12 16 2 729
      ∷ chunk 11 13 32 2 752
      ∷ chunk 12 14 16 1 304
      ∷ chunk 1 3 64 0 0
      ∷ [];
}
unfolding lines
block_4 = refl

abbrev calls_5 : List Call
calls_5 =
    free 1
    ∷ free 0
    ∷ ask 32 1 1 64 791
    ∷ ask 32 1 1 64 596
    ∷ ask 32 16 1 64 445
    ∷ rename_to 3 941
    ∷ ask 32 1 2 64 151
    ∷ ask 32 1 2 32 198
    ∷ ask 32 1 1 64 157
    ∷ free 4
    ∷ free 6
    ∷ free 2
    ∷ free 7
    ∷ ask 32 1 1 64 816
    ∷ ask 32 1 1 128 54
    ∷ ask 32 1 2 64 897
    ∷ rename_to 3 637
    ∷ ask 367 1 2 64 455
    ∷ ask 32 1 1 64 89
    ∷ rename_to 5 482
    ∷ ask 32 1 2 64 362
    ∷ free 3
    ∷ ask 32 4 2 64 308
    ∷ ask 64 16 1 64 564
    ∷ free 10
    ∷ ask 64 1 2 64 869
    ∷ free 12
    ∷ ask 32 1 1 64 454
    ∷ ask 32 1 2 8 861
    ∷ ask 32 64 1 64 508
    ∷ rename_to 6 65
    ∷ ask 32 1 1 64 66
    ∷ rename_to 5 919
    ∷ rename_to 4 192
    ∷ []

-- The lines of 34 calls on a fresh block of 512 bytes with 10 slots.
pub answers-5 :
    lines calls_5 (begin 512 10)
    ≡ line 10 0 0 0
    ∷ line 10 0 0 0
    ∷ line 0 0 2 32
    ∷ line 0 32 3 64
    ∷ line 0 64 4 96
    ∷ line 0 0 0 96
    ∷ line 0 128 5 160
    ∷ line 0 160 6 192
    ∷ line 0 192 7 224
    ∷ line 0 0 0 192
    ∷ line 0 0 0 160
    ∷ line 0 0 0 128
    ∷ line 0 0 0 96
    ∷ line 0 0 2 128
    ∷ line 0 256 8 256
    ∷ line 0 64 4 288
    ∷ line 0 0 0 288
    ∷ line 7 0 0 288
    ∷ line 0 288 9 320
    ∷ line 0 0 0 320
    ∷ line 0 320 10 352
    ∷ line 0 0 0 320
    ∷ line 0 352 11 352
    ∷ line 0 384 12 416
    ∷ line 0 0 0 384
    ∷ line 0 448 6 448
    ∷ line 0 0 0 384
    ∷ line 0 32 3 416
    ∷ line 0 320 10 448
    ∷ line 9 0 0 448
    ∷ line 0 0 0 448
    ∷ line 9 0 0 448
    ∷ line 0 0 0 448
    ∷ line 0 0 0 448
    ∷ []
unfolding lines
answers-5 = refl

-- And the block after them.
pub block_5 : (run calls_5 (begin 512 10)).block ≡ record {
  size = 512;
  next = 13;
  slots = 10;
  chunks =
      chunk 2 2 32 1 816
      ∷ chunk 3 3 32 1 454
      ∷ chunk 4 4 32 2 192
      ∷ chunk 5 5 64 2 919
      ∷ chunk 1 8 128 1 54
      ∷ chunk 7 9 32 1 89
      ∷ chunk 8 10 32 2 861
      ∷ chunk 9 11 32 2 308
      ∷ chunk 10 12 64 0 0
      ∷ chunk 6 6 64 2 65
      ∷ [];
}
unfolding lines
block_5 = refl

abbrev calls_6 : List Call
calls_6 =
    free 40
    ∷ ask 42 1 2 128 789
    ∷ ask 141 1 2 128 820
    ∷ rename_to 3 310
    ∷ ask 44 16 1 128 266
    ∷ rename_to 4 772
    ∷ ask 18 1 2 128 264
    ∷ free 36
    ∷ ask 117 1 1 128 887
    ∷ rename_to 2 472
    ∷ ask 117 1 1 128 196
    ∷ ask 1 2 2 128 859
    ∷ rename_to 3 804
    ∷ free 4
    ∷ ask 117 4 2 128 857
    ∷ ask 29 1 2 128 45
    ∷ ask 88 32 2 128 940
    ∷ free 3
    ∷ free 8
    ∷ ask 63 1 1 128 426
    ∷ ask 66 1 2 16 81
    ∷ free 10
    ∷ ask 54 1 2 128 477
    ∷ ask 61 1 2 128 27
    ∷ ask 46 64 1 64 238
    ∷ free 8
    ∷ free 13
    ∷ free 4
    ∷ ask 82 8 1 128 691
    ∷ ask 23 4 2 128 532
    ∷ rename_to 5 739
    ∷ ask 102 16 1 16 796
    ∷ ask 46 64 1 128 801
    ∷ []

-- The lines of 33 calls on a fresh block of 1024 bytes with 12 slots.
pub answers-6 :
    lines calls_6 (begin 1024 12)
    ≡ line 10 0 0 0
    ∷ line 0 0 2 42
    ∷ line 0 42 3 183
    ∷ line 0 0 0 183
    ∷ line 0 256 4 300
    ∷ line 0 0 0 300
    ∷ line 0 384 5 402
    ∷ line 10 0 0 402
    ∷ line 0 512 6 629
    ∷ line 0 0 0 629
    ∷ line 0 629 7 746
    ∷ line 0 768 8 769
    ∷ line 0 0 0 769
    ∷ line 0 0 0 652
    ∷ line 0 772 9 772
    ∷ line 0 183 10 801
    ∷ line 0 896 11 896
    ∷ line 0 0 0 755
    ∷ line 0 0 0 732
    ∷ line 7 0 0 732
    ∷ line 0 212 12 798
    ∷ line 0 0 0 769
    ∷ line 0 42 13 823
    ∷ line 9 0 0 823
    ∷ line 9 0 0 823
    ∷ line 10 0 0 823
    ∷ line 0 0 0 769
    ∷ line 10 0 0 769
    ∷ line 7 0 0 769
    ∷ line 0 984 14 792
    ∷ line 0 0 0 792
    ∷ line 9 0 0 792
    ∷ line 7 0 0 792
    ∷ []
unfolding lines
answers-6 = refl

-- And the block after them.
pub block_6 : (run calls_6 (begin 1024 12)).block ≡ record {
  size = 1024;
  next = 15;
  slots = 12;
  chunks =
      chunk 2 2 42 2 472
      ∷ chunk 10 13 170 0 0
      ∷ chunk 12 12 66 2 81
      ∷ chunk 4 4 22 0 0
      ∷ chunk 5 5 102 2 739
      ∷ chunk 6 6 227 1 887
      ∷ chunk 7 7 117 1 196
      ∷ chunk 8 8 23 0 0
      ∷ chunk 9 9 120 2 857
      ∷ chunk 11 11 95 2 940
      ∷ chunk 3 14 23 2 532
      ∷ chunk 1 1 17 0 0
      ∷ [];
}
unfolding lines
block_6 = refl

abbrev calls_7 : List Call
calls_7 =
    ask 530 64 2 256 31
    ∷ ask 84 32 1 256 625
    ∷ free 2
    ∷ ask 702 32 2 256 165
    ∷ ask 471 8 1 256 744
    ∷ ask 498 8 1 256 131
    ∷ ask 59 1 2 4 820
    ∷ ask 756 1 2 4 615
    ∷ free 5
    ∷ free 3
    ∷ ask 298 1 2 256 165
    ∷ free 6
    ∷ ask 2370 1 2 16 469
    ∷ ask 257 1 2 2 28
    ∷ ask 160 32 2 256 561
    ∷ free 8
    ∷ ask 404 1 2 256 28
    ∷ free 9
    ∷ free 7
    ∷ free 2
    ∷ ask 530 1 2 256 533
    ∷ ask 529 1 2 256 600
    ∷ ask 874 16 1 256 590
    ∷ ask 780 2 1 128 806
    ∷ free 10
    ∷ free 0
    ∷ ask 37 1 2 256 741
    ∷ ask 43 16 1 256 901
    ∷ rename_to 38 647
    ∷ ask 874 1 2 256 836
    ∷ free 1
    ∷ rename_to 12 737
    ∷ free 4
    ∷ rename_to 10 23
    ∷ ask 37 1 1 256 28
    ∷ ask 301 8 2 256 382
    ∷ ask 3283 1 2 256 594
    ∷ ask 25 16 2 256 672
    ∷ []

-- The lines of 38 calls on a fresh block of 4096 bytes with 5 slots.
pub answers-7 :
    lines calls_7 (begin 4096 5)
    ≡ line 0 0 2 530
    ∷ line 0 768 3 852
    ∷ line 0 0 0 322
    ∷ line 0 1024 4 1196
    ∷ line 0 0 5 1667
    ∷ line 9 0 0 1667
    ∷ line 9 0 0 1667
    ∷ line 9 0 0 1667
    ∷ line 0 0 0 1196
    ∷ line 0 0 0 874
    ∷ line 0 0 6 1172
    ∷ line 0 0 0 874
    ∷ line 0 1726 1 3244
    ∷ line 0 0 7 3501
    ∷ line 0 288 8 3692
    ∷ line 0 0 0 3501
    ∷ line 0 257 9 3905
    ∷ line 0 0 0 3501
    ∷ line 0 0 0 3244
    ∷ line 10 0 0 3244
    ∷ line 0 0 10 3774
    ∷ line 7 0 0 3774
    ∷ line 7 0 0 3774
    ∷ line 7 0 0 3774
    ∷ line 0 0 0 3244
    ∷ line 10 0 0 3244
    ∷ line 0 0 11 3281
    ∷ line 0 256 12 3543
    ∷ line 10 0 0 3543
    ∷ line 7 0 0 3543
    ∷ line 0 0 0 1173
    ∷ line 0 0 0 1173
    ∷ line 0 0 0 299
    ∷ line 10 0 0 299
    ∷ line 0 299 13 336
    ∷ line 0 512 14 813
    ∷ line 0 813 10 4096
    ∷ line 7 0 0 4096
    ∷ []
unfolding lines
answers-7 = refl

-- And the block after them.
pub block-7 : (run calls_7 (begin 4096 5)).block ≡ record {
  size = 4096;
  next = 15;
  slots = 5;
  chunks =
      chunk 3 11 37 2 741
      ∷ chunk 5 12 262 1 737
      ∷ chunk 1 13 37 1 28
      ∷ chunk 4 14 477 2 382
      ∷ chunk 2 10 3283 2 594
      ∷ [];
}
unfolding lines
block-7 = refl

abbrev calls_8 : List Call
calls_8 =
    rename_to 1 825
    ∷ free 1
    ∷ rename_to 24 545
    ∷ ask 370 16 2 4096 936
    ∷ free 2
    ∷ rename_to 13 915
    ∷ free 2
    ∷ free 0
    ∷ ask 169 1 1 1 927
    ∷ ask 3927 1 2 2 808
    ∷ free 3
    ∷ ask 190 2 2 4096 790
    ∷ ask 110 1 1 4096 497
    ∷ rename_to 4 406
    ∷ ask 102 2 1 4096 124
    ∷ free 4
    ∷ ask 3 1 2 4096 28
    ∷ ask 3 64 2 4096 685
    ∷ ask 185 1 2 64 858
    ∷ ask 3386 64 2 4096 103
    ∷ ask 45 1 2 4096 300
    ∷ ask 104 16 1 4 397
    ∷ ask 32 1 1 4096 918
    ∷ ask 264 1 1 4096 754
    ∷ ask 61 4 2 8 279
    ∷ ask 243 1 1 4096 891
    ∷ ask 45 4 2 16 107
    ∷ ask 358 32 2 4096 688
    ∷ []

-- The lines of 28 calls on a fresh block of 4096 bytes with 11 slots.
pub answers-8 :
    lines calls_8 (begin 4096 11)
    ≡ line 10 0 0 0
    ∷ line 10 0 0 0
    ∷ line 10 0 0 0
    ∷ line 0 0 2 370
    ∷ line 0 0 0 0
    ∷ line 10 0 0 0
    ∷ line 10 0 0 0
    ∷ line 10 0 0 0
    ∷ line 0 0 3 169
    ∷ line 7 0 0 169
    ∷ line 0 0 0 0
    ∷ line 0 0 4 190
    ∷ line 7 0 0 190
    ∷ line 0 0 0 190
    ∷ line 7 0 0 190
    ∷ line 0 0 0 0
    ∷ line 0 0 5 3
    ∷ line 0 64 6 67
    ∷ line 0 67 7 252
    ∷ line 0 256 8 3642
    ∷ line 0 3642 9 3687
    ∷ line 0 3696 10 3800
    ∷ line 0 3800 11 3832
    ∷ line 0 3832 4 4096
    ∷ line 7 0 0 4096
    ∷ line 7 0 0 4096
    ∷ line 7 0 0 4096
    ∷ line 7 0 0 4096
    ∷ []
unfolding lines
answers-8 = refl

-- And the block after them.
pub block-8 : (run calls_8 (begin 4096 11)).block ≡ record {
  size = 4096;
  next = 12;
  slots = 11;
  chunks =
      chunk 1 5 3 2 28
      ∷ chunk 3 6 64 2 685
      ∷ chunk 4 7 185 2 858
      ∷ chunk 5 8 3390 2 103
      ∷ chunk 6 9 45 2 300
      ∷ chunk 7 10 113 1 397
      ∷ chunk 8 11 32 1 918
      ∷ chunk 2 4 264 1 754
      ∷ [];
}
unfolding lines
block-8 = refl

abbrev calls_9 : List Call
calls_9 =
    ask 30557544830 64 1 64 12
    ∷ ask 1595803695 64 2 64 660
    ∷ free 1
    ∷ ask 30557544830 4 1 64 905
    ∷ free 2
    ∷ ask 30557544830 1 2 128 482
    ∷ ask 69893977333 8 1 64 981
    ∷ free 4
    ∷ ask 27260640482 1 1 64 912
    ∷ ask 3296904348 1 1 64 612
    ∷ ask 32766537022 32 2 16 758
    ∷ free 0
    ∷ ask 31819213066 1 1 64 229
    ∷ ask 95949569435 1 2 8 703
    ∷ rename_to 8 143
    ∷ ask 57938252121 1 2 64 717
    ∷ ask 18337874078 1 2 64 965
    ∷ rename_to 4 257
    ∷ free 7
    ∷ rename_to 5 175
    ∷ rename_to 9 975
    ∷ ask 107525157210 1 2 64 319
    ∷ free 5
    ∷ ask 81667065311 4 2 64 982
    ∷ ask 116992398762 2 1 64 610
    ∷ free 40
    ∷ free 4
    ∷ rename_to 0 795
    ∷ ask 31819213068 16 2 64 56
    ∷ rename_to 3 307
    ∷ []

-- The lines of 30 calls on a fresh block of 1099511627776 bytes with 9 slots.
pub answers-9 :
    lines calls_9 (begin 1099511627776 9)
    ≡ line 0 0 2 30557544830
    ∷ line 0 30557544832 3 32153348527
    ∷ line 10 0 0 32153348527
    ∷ line 0 32153348544 4 62710893374
    ∷ line 0 0 0 32153348544
    ∷ line 0 0 2 62710893374
    ∷ line 0 62710893376 5 132604870709
    ∷ line 0 0 0 102047325862
    ∷ line 0 32153348544 6 129307966361
    ∷ line 0 59413989026 4 132604870709
    ∷ line 0 132604870720 7 165371407742
    ∷ line 10 0 0 165371407742
    ∷ line 0 165371407744 8 197190620810
    ∷ line 0 197190620816 9 293140190251
    ∷ line 0 0 0 293140190251
    ∷ line 9 0 0 293140190251
    ∷ line 9 0 0 293140190251
    ∷ line 0 0 0 293140190251
    ∷ line 0 0 0 260373653218
    ∷ line 0 0 0 260373653218
    ∷ line 0 0 0 260373653218
    ∷ line 9 0 0 260373653218
    ∷ line 0 0 0 190479675883
    ∷ line 0 62710893376 10 272146741196
    ∷ line 9 0 0 272146741196
    ∷ line 10 0 0 272146741196
    ∷ line 0 0 0 268849836848
    ∷ line 10 0 0 268849836848
    ∷ line 9 0 0 268849836848
    ∷ line 0 0 0 268849836848
    ∷ []
unfolding lines
answers-9 = refl

-- And the block after them.
pub block-9 : (run calls_9 (begin 1099511627776 9)).block ≡ record {
  size = 1099511627776;
  next = 11;
  slots = 9;
  chunks =
      chunk 2 2 30557544830 2 482
      ∷ chunk 3 3 1595803697 2 307
      ∷ chunk 6 6 27260640499 1 912
      ∷ chunk 4 4 3296904348 0 0
      ∷ chunk 7 10 81667065313 2 982
      ∷ chunk 5 5 20993449055 0 0
      ∷ chunk 8 8 31819213068 1 143
      ∷ chunk 9 9 95949569441 2 975
      ∷ chunk 1 1 806371437525 0 0
      ∷ [];
}
unfolding lines
block-9 = refl

abbrev calls_10 : List Call
calls_10 =
    free 37
    ∷ ask 245 32 1 64 826
    ∷ ask 233 2 2 64 535
    ∷ ask 141 8 2 64 777
    ∷ free 18446744073709551613
    ∷ ask 137 32 1 64 905
    ∷ ask 95 1 2 64 234
    ∷ ask 234 8 1 64 516
    ∷ ask 200 4 1 64 695
    ∷ ask 128 16 1 64 787
    ∷ ask 30 16 1 128 736
    ∷ ask 228 1 2 16 706
    ∷ ask 149 1 1 64 768
    ∷ ask 288 1 2 64 365
    ∷ free 1
    ∷ rename_to 18446744073709551614 260
    ∷ rename_to 18446744073709551614 745
    ∷ ask 131 1 1 64 804
    ∷ ask 245 1 1 64 596
    ∷ free 18446744073709551614
    ∷ ask 210 64 1 64 569
    ∷ rename_to 18446744073709551613 747
    ∷ free 0
    ∷ ask 167 64 2 64 339
    ∷ rename_to 40 364
    ∷ free 0
    ∷ free 20
    ∷ free 0
    ∷ free 18446744073709551613
    ∷ rename_to 26 48
    ∷ free 0
    ∷ rename_to 0 237
    ∷ ask 83 1 2 64 84
    ∷ free 18446744073709551613
    ∷ ask 743 8 1 64 499
    ∷ ask 87 1 1 64 400
    ∷ ask 113 1 1 64 655
    ∷ rename_to 23 897
    ∷ ask 777 1 1 256 409
    ∷ ask 180 1 2 64 764
    ∷ []

-- The lines of 40 calls on a block, fresh but for its next id, of 777 bytes with 3 slots.
pub answers-10 :
    lines calls_10 (begin_at 18446744073709551613 777 3)
    ≡ line 10 0 0 0
    ∷ line 0 0 18446744073709551613 245
    ∷ line 0 256 18446744073709551614 489
    ∷ line 8 0 0 489
    ∷ line 0 0 0 244
    ∷ line 8 0 0 244
    ∷ line 8 0 0 244
    ∷ line 8 0 0 244
    ∷ line 8 0 0 244
    ∷ line 8 0 0 244
    ∷ line 8 0 0 244
    ∷ line 8 0 0 244
    ∷ line 8 0 0 244
    ∷ line 0 489 1 532
    ∷ line 0 0 0 244
    ∷ line 0 0 0 244
    ∷ line 0 0 0 244
    ∷ line 8 0 0 244
    ∷ line 8 0 0 244
    ∷ line 0 0 0 0
    ∷ line 8 0 0 0
    ∷ line 10 0 0 0
    ∷ line 10 0 0 0
    ∷ line 8 0 0 0
    ∷ line 10 0 0 0
    ∷ line 10 0 0 0
    ∷ line 10 0 0 0
    ∷ line 10 0 0 0
    ∷ line 10 0 0 0
    ∷ line 10 0 0 0
    ∷ line 10 0 0 0
    ∷ line 10 0 0 0
    ∷ line 8 0 0 0
    ∷ line 10 0 0 0
    ∷ line 8 0 0 0
    ∷ line 8 0 0 0
    ∷ line 8 0 0 0
    ∷ line 10 0 0 0
    ∷ line 0 0 18446744073709551613 777
    ∷ line 7 0 0 777
    ∷ []
unfolding lines
answers-10 = refl

-- And the block after them.
pub block-10 : (run calls_10 (begin_at 18446744073709551613 777 3)).block ≡ record {
  size = 777;
  next = 18446744073709551615;
  slots = 3;
  chunks =
      chunk 2 18446744073709551613 777 1 409
      ∷ [];
}
unfolding lines
block-10 = refl
